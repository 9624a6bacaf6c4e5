use Rattle.std.proofs.Common.{rules, ◌≡◌, sym, length, take, drop, take-append-drop}
use Rattle.wincode_serde.proofs.Edits.{last_is}
use Rattle.wincode_serde.proofs.laws.edit_one.Goals as goal

pub returns-clause-ok : goal.returns-clause-ok
returns-clause-ok g c =
    let T = g.T.ZeroCopy in
    let b = c.args.bytes.now in
    let first = take T.size b in
    let size : length first ≡ T.size = search rules in
    record {
      first = first;
      more = drop T.size b;
      size = size;
      joins = sym (take-append-drop T.size b);
      is = search rules;
      value_is = last_is g.T.ZeroCopy.byte_form first size c.args.values.now c.edit_form.ensures.is_valid;
    }

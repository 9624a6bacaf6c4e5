use Rattle.std.proofs.Common.{◌≡◌, take}
use Rattle.std.specs.List.{All}
use Rattle.wincode_io.specs.Edits.{all_edited, in_first}
use Rattle.wincode_serde.proofs.laws.edit_form.Given as goal

abbrev pub invariant-loop-value : goal.invariant-loop-value
invariant-loop-value g l = record {
  same : l.view.bytes.ghost_name ≡ l.initial.view.bytes.ghost_name;
  so_far : l.view.bytes.now ≡ all_edited g.T.ZeroCopy.size l.fn.form (in_first g.T.ZeroCopy.form (take l.value-index l.values));
  is_valid : All g.T.ZeroCopy.is_valid (take l.value-index l.values);
}

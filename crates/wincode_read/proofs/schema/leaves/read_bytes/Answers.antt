use Rattle.std.proofs.Common.{rules, refl, true, ◌*◌}
use Rattle.std.proofs.lemmas.Result.{err_from_is_err_and}
use Rattle.wincode_base.proofs.Bulk.{bytes_added, bytes_refused, bytes_denied, bytes_wanted, wanted_refuses, went_well}
use Rattle.wincode_read.proofs.schema.leaves.read_bytes.Goals as goal
use Rattle.wincode_base.proofs.Items.{bulk_exact}
use Rattle.wincode_base.specs.Leaves.{number_read}

pub returns-in_err-bytes : goal.returns-in_err-bytes
returns-in_err-bytes g c =
    let follows = rw c.in_err-bytes.was at c.fill_exact.follows.holds-at-none in
    let h = bytes_refused c.args.n _ _ _ (follows.0, follows.2.0, follows.2.1) in
    let b = bytes_denied c.args.n _ _ _ (follows.0, follows.2.0, follows.2.1) in
    let p = err_from_is_err_and c.from_residual.result c.from_residual.ensures.1 in
    rw (p.1, p.2) (record { each = record { ok = tt; refused = (h, bulk_exact c.args.n (number_read 1 true) (c.args.n * 1) _ _ _ b); same = refl }; at_once = b })

pub returns-then-is_err : goal.returns-then-is_err
returns-then-is_err g c =
    let follows = rw c.in_ok-bytes.was at c.fill_exact.follows.holds-at-none in
    let shown = c.in_ok-bytes.ensures.shown in
    let b = bytes_wanted c.args.n _ _ _ (follows.0, follows.1.1) shown.0 shown.1 in
    record {
      each = record {
        ok = tt;
        refused = (wanted_refuses _ _ _ _ (follows.0, follows.1.1), bulk_exact c.args.n (number_read 1 true) (c.args.n * 1) _ _ _ b);
        same = search rules;
      };
      at_once = b;
    }

pub returns : goal.returns
returns g c =
    let follows = rw c.in_ok-bytes.was at c.fill_exact.follows.holds-at-none in
    let shown = c.in_ok-bytes.ensures.shown in
    record {
      each = record {
        ok = bytes_added c.args.n _ _ _ c.in_ok-bytes.bytes.now _ _ c.add_bytes.ensures.small shown.0 shown.1 (follows.0, follows.1.1) c.consume_unchecked.ensures
            (went_well c.add_bytes.result c.if-is_err.ensures.negation c.add_bytes.ensures.ok);
        refused = tt;
        same = tt;
      };
      at_once = tt;
    }

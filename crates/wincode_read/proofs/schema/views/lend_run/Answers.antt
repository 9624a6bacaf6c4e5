use Rattle.std.proofs.Common.{rules, ◌*◌, ◌≤◌}
use Rattle.wincode_io.specs.Writers.{byte_limit}
use Rattle.wincode_base.specs.declared.error.ReadError.TheVariants as reading
use Rattle.wincode_base.proofs.Views.{run_gives, run_refuses}
use Rattle.wincode_base.proofs.ReadAnswers.{get_refused}
use Rattle.wincode_base.specs.Views.{form_item_read, lent_run}
use Rattle.wincode_read.proofs.schema.views.lend_run.Goals as goal

pub returns-in_err-bytes : goal.returns-in_err-bytes
returns-in_err-bytes g c =
    let refused = rw c.in-Some.ensures at c.in_err-bytes.ensures.err in
    let h = run_refuses g.T.ZeroCopy.byte_form g.B.Borrowed.borrow c.args.n _ _ (reading.Io c.in_err-bytes.field-0.0) refused in
    get_refused (lent_run g.B.Borrowed.borrow g.T.ZeroCopy.size (form_item_read g.T.ZeroCopy.is_valid g.T.ZeroCopy.size g.T.ZeroCopy.form) c.args.n) _ _ _
    c.from_residual.ensures (h, refused)

pub returns : goal.returns
returns g c =
    let takes = rw c.in-Some.ensures at c.in_ok-bytes.ensures.ok.takes in
    let few : c.args.n ≤ byte_limit = search rules in
    let within : c.args.n * g.T.ZeroCopy.size ≤ byte_limit = search rules in
    record {
      ok = rw (c.over.ensures.forms, c.over.ensures.n) (run_gives g.T.ZeroCopy.byte_form c.args.n _ _ _ few within takes c.in_ok-bytes.ensures.bytes);
      refused = tt;
    }

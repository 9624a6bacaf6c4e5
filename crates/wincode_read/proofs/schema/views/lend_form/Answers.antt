use Rattle.std.proofs.Common.{rules, sym, ap, subst, ◌≤◌}
use Rattle.wincode_io.specs.Writers.{byte_limit}
use Rattle.wincode_base.specs.AsForms.{reads_form}
use Rattle.wincode_base.specs.Outcomes.{Gives}
use Rattle.wincode_base.specs.declared.error.ReadError.TheVariants as reading
use Rattle.wincode_base.proofs.Views.{form_gives, form_refuses, form_denied}
use Rattle.wincode_base.proofs.ReadAnswers.{get_refused}
use Rattle.wincode_base.specs.Views.{view_read}
use Rattle.wincode_read.proofs.Exits.{vast_denied}
use Rattle.wincode_read.proofs.schema.views.lend_form.Goals as goal

pub returns-in_default : goal.returns-in_default
returns-in_default g c =
    let borrow = g.B.Borrowed.borrow in
    let d = vast_denied borrow g.T.ZeroCopy.size _ c.in_default.ensures in
    rw c.into.ensures (record { ok = tt; refused = (form_refuses g.T.ZeroCopy.byte_form borrow _ _ (reading.Io _) d, d) })

pub returns-in_err-bytes : goal.returns-in_err-bytes
returns-in_err-bytes g c =
    let borrow = g.B.Borrowed.borrow in
    let refused = rw c.in-Some.ensures at c.in_err-bytes.ensures.err in
    let within : g.T.ZeroCopy.size ≤ byte_limit = search rules in
    let denied = form_denied borrow g.T.ZeroCopy.size _ _ c.in_err-bytes.field-0.0 within refused in
    let h = form_refuses g.T.ZeroCopy.byte_form borrow _ _ (reading.Io c.in_err-bytes.field-0.0) denied in
    get_refused (view_read g.T.ZeroCopy.is_valid g.T.ZeroCopy.size g.T.ZeroCopy.form borrow) _ _ _ c.from_residual.ensures (h, denied)

pub returns : goal.returns
returns g c =
    let T = g.T.ZeroCopy in
    let takes = rw c.in-Some.ensures at c.in_ok-bytes.ensures.ok.takes in
    let same = ap (λ b. T.value (g.B.Lent.Held.holds b)) (sym c.over.ensures) in
    record {
      ok = subst (Gives (reads_form T.is_valid T.form) _ _) same (form_gives g.T.ZeroCopy.byte_form _ _ _ takes c.in_ok-bytes.ensures.bytes);
      refused = tt;
    }

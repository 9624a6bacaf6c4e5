use Rattle.std.proofs.Common.{rules, inl, ◌≤◌}
use Rattle.wincode_io.specs.Writers.{byte_limit}
use Rattle.wincode_base.specs.declared.error.ReadError.TheVariants as reading
use Rattle.wincode_base.proofs.Bulk.{shown_takes}
use Rattle.wincode_base.proofs.ReadAnswers.{get_refused}
use Rattle.wincode_base.specs.Views.{pod_read}
use Rattle.wincode_base.proofs.Views.{form_gives, form_refuses, fill_denied}
use Rattle.wincode_read.proofs.Exits.{vast_denied}
use Rattle.wincode_read.proofs.schema.pod.take_form.Goals as goal

pub returns-in_default : goal.returns-in_default
returns-in_default g c =
    let d = vast_denied 0 g.T.ZeroCopy.size _ c.in_default.ensures in
    rw c.into.ensures (record { ok = tt; refused = (form_refuses g.T.ZeroCopy.byte_form 0 _ _ (reading.Io _) d, inl d) })

pub returns-in_err-bytes : goal.returns-in_err-bytes
returns-in_err-bytes g c =
    let s = g.T.ZeroCopy.size in
    let fills = rw c.in-Some.ensures at (rw c.in_err-bytes.was at c.fill_exact.follows.holds-at-none) in
    let within : s ≤ byte_limit = search rules in
    let denied = fill_denied s _ _ c.in_err-bytes.field-0.0 within (fills.0, fills.2.0, fills.2.1) in
    let h = form_refuses g.T.ZeroCopy.byte_form 0 _ _ (reading.Io c.in_err-bytes.field-0.0) denied in
    get_refused (pod_read g.T.ZeroCopy.is_valid s g.T.ZeroCopy.form) (λ v. v) _ _ c.from_residual.ensures (h, inl denied)

pub returns : goal.returns
returns g c =
    let fills = rw c.in_ok-bytes.was at c.fill_exact.follows.holds-at-none in
    let shown = c.in_ok-bytes.ensures.shown in
    let taken = shown_takes c.in-Some.size _ _ _ c.in_ok-bytes.bytes.now shown.0 shown.1 (fills.0, fills.1.1) c.consume_unchecked.ensures in
    let takes = rw c.in-Some.ensures at taken in
    record { ok = rw c.of_form-value.ensures (form_gives g.T.ZeroCopy.byte_form _ _ _ takes c.see_bytes.ensures); refused = tt }

use Rattle.std.proofs.Common.{refl, false, inl, inr}
use Rattle.wincode_base.proofs.Strings.{body_refuses, text_first, text_second}
use Rattle.wincode_base.proofs.ReadAnswers.{get_refused}
use Rattle.wincode_base.specs.Strings.{str_read}
use Rattle.wincode_read.proofs.schema.strings.refuse_text.Goals as goal

pub returns-in_err-n : goal.returns-in_err-n
returns-in_err-n g c =
    let o = c.in_err-n.ensures in
    let h = text_first 24 0 false _ _ _ o.refused.0 in
    let p = o.refused.1 in get_refused (str_read 24 0 false) _ _ _ c.from_residual.ensures (h, inl p)

pub returns : goal.returns
returns g c =
    let n = c.in_ok-n.ensures.ok in
    let d = c.refused_bytes.ensures in
    let h = body_refuses ⊥ (Unit {0}) c.in_ok-n.n 0 false _ _ c.refused_bytes.result (λ x. absurd x) (λ x. refl) d in
    record { ok = tt; refused = (text_second 24 0 false _ _ _ _ _ n h, inr (_, _, n, d)) }

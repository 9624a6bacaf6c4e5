use Rattle.std.proofs.Common.{true, inl, inr}
use Rattle.wincode_base.specs.Strings.{str_read, body_read}
use Rattle.wincode_base.proofs.ReadAnswers.{get_refused, get_map}
use Rattle.wincode_base.proofs.Strings.{text_gives, text_first, text_second}
use Rattle.wincode_read.proofs.schema.strings.lend_text.Goals as goal

pub returns-in_err-n : goal.returns-in_err-n
returns-in_err-n g c =
    let o = c.in_err-n.ensures in
    let h = text_first 16 1 true _ _ _ o.refused.0 in
    let p = o.refused.1 in get_refused (str_read 16 1 true) _ _ _ c.from_residual.ensures (h, inl p)

pub returns : goal.returns
returns g c =
    let n = c.in_ok-n.ensures.ok in
    get_map (body_read c.in_ok-n.n 1 true) _ (str_read 16 1 true) _ c.borrow_text.result (λ s p. text_gives 16 1 true _ _ _ _ _ n p)
    (λ e p. (text_second 16 1 true _ _ _ _ e n p.0, inr (_, _, n, p.1))) c.borrow_text.ensures

-- An item's list, behind the word of its scheme.
use Rattle.std.proofs.Common.{◌∙◌, sym, ap, []}
use Rattle.std.proofs.lemmas.Result.{err_from_is_err_and}
use Rattle.std.specs.String.{string_bytes}
use Rattle.wincode_describe.specs.Forms.{seen}
use Rattle.wincode_describe.specs.Readers.{scheme_of}
use Rattle.wincode_describe.proofs.ReadSteps.{chosen_is, chosen_is_none, made, next_fault, next_ok}
use Rattle.wincode_describe.proofs.parsing.schemed_list.Goals as goal

pub returns-in_default : goal.returns-in_default
returns-in_default c = next_ok [] [] string_bytes seen _ c.in_ok-word.word _ _ _ _ c.in_ok-word.ensures
    (chosen_is_none [] seen _ _ _ _ (ap scheme_of (sym c.as_str.ensures.value) ∙ sym c.length_scheme.ensures ∙ c.in_default.is))

pub returns-in_err-expect : goal.returns-in_err-expect
returns-in_err-expect c =
    let p = err_from_is_err_and c.from_residual-in_err-expect.result c.from_residual-in_err-expect.ensures.1 in
    rw (p.1, p.2) (next_ok [] [] string_bytes seen _ c.in_ok-word.word _ _ _ _ c.in_ok-word.ensures
    (chosen_is [] seen _ c.in-Some.scheme _ _ _ (ap scheme_of (sym c.as_str.ensures.value) ∙ sym c.length_scheme.ensures ∙ c.in-Some.is)
    (next_fault [] (λ u. u) seen _ _ _ _ _ c.in_err-expect.ensures)))

pub returns : goal.returns
returns c = next_ok [] [] string_bytes seen _ c.in_ok-word.word _ _ _ _ c.in_ok-word.ensures
    (chosen_is [] seen _ c.in-Some.scheme _ _ _ (ap scheme_of (sym c.as_str.ensures.value) ∙ sym c.length_scheme.ensures ∙ c.in-Some.is)
    (next_ok [] [] (λ u. u) seen _ c.in_ok-expect.field-0 _ _ _ _ c.in_ok-expect.ensures (made [] seen _ _ _ c.list.ensures)))

use Rattle.std.proofs.Common.{arith, refl, ap, sym, take, ◌≡◌, ◌∙◌, ◌∷◌, ◌+◌, suc, []}
use native.Mathlib.Numerals.{unary_clauses}
use Rattle.wincode_io.specs.Numbers as numbers
use Rattle.wincode_read.proofs.schema.tags.decoded_option.Goals as goal

pub returns-in-0 : goal.returns-in-0
unfolding numbers.le
returns-in-0 g c =
    let is = c.in_ok-tag.ensures.cases in
    (omega (arith, is.1), ([], refl, ap (take 1) is.0 ∙ ap (λ t. t ∷ []) c.in-0.is))

pub returns-in_ok-value-in-1 : goal.returns-in_ok-value-in-1
unfolding numbers.le
returns-in_ok-value-in-1 g c =
    let is = c.in_ok-tag.ensures.cases in
    let size = c.in-Static.size in
    let found = c.in_ok-get-in-1.ensures.lookup.0 in
    let part : c.in_ok-get-in-1.field-0.now ≡ take size c.in_ok-tag.behind.now = simp unary_clauses at found.2 in
    let behind = c.in_ok-tag.behind.now in
    let more : 1 + size ≡ suc size = omega arith in
    let front = ap (λ k. take k (c.in_ok-tag.tag.now ∷ behind)) more ∙ ap (λ t. t ∷ take size behind) c.in-1.is in
    (omega (arith, is.1, found.1), (c.in_ok-get-in-1.field-0.now, c.in_ok-value-in-1.ensures, ap (take (1 + size)) is.0 ∙ front ∙ ap (λ b. 1 ∷ b) (sym part)))

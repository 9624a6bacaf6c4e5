use Rattle.std.proofs.Common.{◌≡◌, ◌∙◌, ap, refl, ◌∷◌, []}
use Rattle.wincode_describe.specs.Parts.{seen}
use Rattle.wincode_describe.specs.Types.{zero_shown}
use Rattle.wincode_describe.proofs.Gets.{nonzero_nothing}
use Rattle.wincode_describe.proofs.leaves.get_nonzero.Goals as goal

pub returns-then-is_same_part : goal.returns-then-is_same_part
returns-then-is_same_part g c =
    let p = c.in_ok-part.part in
    let same = c.is_same_part.ensures.other c.if-is_same_part.true in
    let zero : seen p ∷ [] ≡ zero_shown c.args.integer = ap (λ t. t ∷ []) same ∙ c.zero_of.ensures in
    nonzero_nothing c.args.integer p _ c.in_ok-part.ensures.ok zero (refl, λ r q e m. m.1 (e ∙ zero))

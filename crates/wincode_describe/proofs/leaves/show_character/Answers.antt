use Rattle.std.proofs.Common.{[], ◌∷◌}
use Rattle.wincode_base.specs.Strings.{char_read}
use Rattle.wincode_describe.specs.Parts.{Character}
use Rattle.wincode_describe.specs.ShownGrammars.{shown_read}
use Rattle.wincode_describe.proofs.Shows.{show_refused, shown_refused, began_none}
use Rattle.wincode_describe.proofs.leaves.show_character.Goals as goal

pub returns-in_err-value : goal.returns-in_err-value
returns-in_err-value g c =
    let o = c.in_err-value.ensures in
    show_refused (shown_read (λ c. Character c ∷ []) char_read) _ _ _ _ c.from_residual.ensures
    (shown_refused (λ c. Character c ∷ []) char_read _ _ _ o.refused) (began_none g.S.PartSink.sink_laws _ _)

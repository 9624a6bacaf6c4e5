use Rattle.std.proofs.Common.{◌≡◌, length}
use Rattle.wincode_derive_text.specs.Notes.{behind_lead}
use Rattle.wincode_derive_text.proofs.notes.words_of.Given as goal

abbrev pub invariant-loop-comment : goal.invariant-loop-comment
invariant-loop-comment l = behind_lead l.comment ≡ behind_lead l.fn.comment

abbrev pub decreases-loop-comment : goal.decreases-loop-comment
decreases-loop-comment l = length l.comment

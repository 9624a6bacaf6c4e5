-- What exits answer.
use Rattle.std.proofs.Common.{◌≡◌, refl, sym, subst, ℕ, ◌*◌, List, Result, Err}
use Rattle.std.specs.Prelude.{IfErr}
use Rattle.wincode_io.specs.Writers.{WriterState}
use Rattle.wincode_base.specs.AsForms.{WrittenAtOnce, BulkWriteRefused}
use Rattle.wincode_base.specs.Grammar.{WriteGrammar}
use Rattle.wincode_base.specs.Lists.{items_write}
use Rattle.wincode_base.specs.Outcomes.{WriteRefused, Stopped}
use Rattle.wincode_base.specs.declared.error.WriteError.{WriteError}
use Rattle.wincode_base.proofs.ReadAnswers.{IsPassed, if_passed}
use Rattle.wincode_base.proofs.WriteAnswers.{write_refused}

-- the error of what is this error
pub same_error : {A E : Type 0} {r : Result A E} {x : E} → r ≡ Err x → IfErr r (λ y. y ≡ x)
same_error {x = x} h = subst (λ s. IfErr s (λ y. y ≡ x)) (sym h) refl

-- values that were to be written at once were refused
pub at_once_refused : {A S K V : Type 0} {put : S → List ℕ → S} {room : S → ℕ} (s n : ℕ) (g : WriteGrammar V) {old new : WriterState put room K}
    (vs : List V) (are_valid : Type 0) (r : Result A WriteError) (e : WriteError) → IsPassed r e → WriteRefused (items_write g) old new vs e
    → Stopped (items_write g) old new vs e → BulkWriteRefused (n * s) old new e → WrittenAtOnce s n g old new vs are_valid r
at_once_refused s n g {old} {new} vs are_valid r e h u p b = record {
  each = write_refused (items_write g) vs are_valid r e h u p;
  at_once = if_passed (BulkWriteRefused (n * s) old new) r e h b;
}

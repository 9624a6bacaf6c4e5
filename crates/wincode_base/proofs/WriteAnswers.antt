-- What writes answer, made of what they answer in parts.
use Rattle.std.proofs.Common.{ℕ, List, sym, subst, refl, Result, Ok, Err}
use Rattle.wincode_io.specs.Writers.{WriterState}
use Rattle.wincode_base.proofs.ReadAnswers.{IsPassed}
use Rattle.wincode_base.specs.Grammar.{WriteGrammar}
use Rattle.wincode_base.specs.Boxed.{boxed_write}
use Rattle.wincode_base.specs.Outcomes.{Wrote, WriteRefused, Stopped, WriteOutcome}
use Rattle.wincode_base.specs.Strings.{reference_write}
use Rattle.wincode_base.specs.WriteSequences.{wrote_map, unwritten_map, stopped_map}
use Rattle.wincode_base.specs.declared.error.WriteError.{WriteError}

module _ {A S K V : Type 0} {put : S → List ℕ → S} {room : S → ℕ} (g : WriteGrammar V) {old new : WriterState put room K} (v : V) (is_valid : Type 0) where
  pub write_refused : (r : Result A WriteError) (e : WriteError) → IsPassed r e → WriteRefused g old new v e → Stopped g old new v e
      → WriteOutcome g old new v is_valid r
  write_refused (Ok x) e h u s = absurd h.1
  write_refused (Err x) e h u s = let P : WriteError → Type 0 = λ w. WriteRefused g old new v w × Stopped g old new v w in let k = subst P (sym h.1) (u, s) in
      record { ok = tt; value = tt; refused = k }

  pub write_map : {W : Type 0} (h : WriteGrammar W) {start : WriterState put room K} (w : W) (q : Type 0) (r : Result A WriteError)
      → (Wrote g old new v → Wrote h start new w) → (is_valid → q) → ((e : WriteError) → WriteRefused g old new v e → WriteRefused h start new w e)
      → ((e : WriteError) → Stopped g old new v e → Stopped h start new w e) → WriteOutcome g old new v is_valid r → WriteOutcome h start new w q r
  write_map h w q (Ok x) m p n s o = record { ok = m o.ok; value = p o.value; refused = tt }
  write_map h w q (Err e) m p n s o = record { ok = tt; value = tt; refused = (n e o.refused.0, s e o.refused.1) }

  -- what refers to a value, or holds it, is written as the value
  pub reference_outcome : (r : Result A WriteError) → WriteOutcome g old new v is_valid r → WriteOutcome (reference_write g) old new v is_valid r
  reference_outcome r o =
      write_map (reference_write g) v is_valid r (λ w. wrote_map g (reference_write g) v v (λ c. c) refl (λ b t. t) w) (λ p. p)
      (λ e u. unwritten_map g (reference_write g) v v (λ c. c) refl (λ b t. t) u) (λ e s. stopped_map g (reference_write g) v v (λ a x. x) s) o

  pub held_outcome : (r : Result A WriteError) → WriteOutcome g old new v is_valid r → WriteOutcome (boxed_write g) old new v is_valid r
  held_outcome r o =
      write_map (boxed_write g) v is_valid r (λ w. wrote_map g (boxed_write g) v v (λ c. c) refl (λ b t. t) w) (λ p. p)
      (λ e u. unwritten_map g (boxed_write g) v v (λ c. c) refl (λ b t. t) u) (λ e s. stopped_map g (boxed_write g) v v (λ a x. x) s) o

  -- more is known of the value
  pub sound_outcome : (sound : Type 0) → sound → (r : Result A WriteError) → WriteOutcome g old new v is_valid r → WriteOutcome g old new v (sound × is_valid) r
  sound_outcome sound s r o = write_map g v (sound × is_valid) r (λ w. w) (λ p. (s, p)) (λ e u. u) (λ e h. h) o

-- What the state of a writer over a slice says of the slice.
use Rattle.std.proofs.Common.{◌≡◌, ℕ, List, ◌++◌, ◌∙◌, sym, ap, take, drop}
use Rattle.std.proofs.lemmas.List.{take-append-drop}
use Rattle.wincode_io.specs.SliceWriters.{SliceState}

abbrev pub slice_state : ℕ → List ℕ → SliceState
slice_state at bytes = record { done = take at bytes; left = drop at bytes }

pub slice_whole : (at : ℕ) (bytes : List ℕ) (s : SliceState) → slice_state at bytes ≡ s → bytes ≡ s.done ++ s.left
slice_whole at bytes s e = sym (take-append-drop at bytes) ∙ ap (λ (t : SliceState). t.done ++ t.left) e

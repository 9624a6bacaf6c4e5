-- Edits: forms that are put in the place of others, one after another.
use Rattle.std.specs.Prelude.{ℕ, List, [], ◌∷◌, map, slice_set}
use Rattle.wincode_io.specs.Forms.{edited}

-- b after each edit in turn, which names a place and the form that is put there
unfoldable pub all_edited : ℕ → List ℕ → List (ℕ × List ℕ) → List ℕ
all_edited s b [] = b
all_edited s b (e ∷ es) = all_edited s (edited s b e.0 e.1) es

-- each value's form, in its place
abbrev pub in_places : {X : Type 0} → (X → List ℕ) → List (ℕ × X) → List (ℕ × List ℕ)
in_places form es = map (λ e. (e.0, form e.1)) es

-- each value's form, in the first place
abbrev pub in_first : {X : Type 0} → (X → List ℕ) → List X → List (ℕ × List ℕ)
in_first form vs = map (λ v. (0, form v)) vs

-- the list after each value in turn was put in its place
unfoldable pub all_set : {X : Type 0} → List X → List (ℕ × X) → List X
all_set xs [] = xs
all_set xs (e ∷ es) = all_set (slice_set xs e.0 e.1) es

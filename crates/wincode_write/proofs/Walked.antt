-- The walks over all items, at their ends.
use Rattle.std.proofs.Common.{◌≡◌, ◌∙◌, sym, ap, subst, ℕ, ◌+◌, List, [], ◌++◌, length, map, append-nil, Ok}
use Rattle.wincode_io.specs.Joins.{Each, total}
use Rattle.wincode_io.specs.Writers.{WriterState, WriterLaws}
use Rattle.wincode_base.specs.Grammar.{WriteGrammar, WriteLaws}
use Rattle.wincode_base.specs.Lists.{items_write}
use Rattle.wincode_base.specs.Outcomes.{WriteOutcome}
use Rattle.wincode_base.proofs.Walks.{WritesSoFar, SumsSoFar, walk_all}

-- none is left: all were written
pub walked : {A S K V E : Type 0} {put : S → List ℕ → S} {room : S → ℕ} (laws : WriterLaws put room) {g : WriteGrammar V} {P : E → Type 0} {see : E → V}
    (l : WriteLaws P see g) {old cur : WriterState put room K} {all left : List E} (x : A) → WritesSoFar g see P old cur all left → left ≡ []
    → WriteOutcome (items_write g) old cur (map see all) (Each P all) (Ok x)
walked laws l x w none = let all = walk_all laws l w (ap length none) in record { ok = all.0; value = all.1; refused = tt }

-- or the sizes of all were added
pub summed : {E V : Type 0} (g : WriteGrammar V) (see : E → V) (before sum : ℕ) (all left : List E) → SumsSoFar g see before sum all left → left ≡ []
    → Each g.can (map see all) × (sum ≡ before + total g.size (map see all))
summed g see before sum all left w none =
    let done : w.done ≡ all = sym (append-nil w.done) ∙ ap (λ t. w.done ++ t) (sym none) ∙ w.joins in
    (subst (λ ds. Each g.can (map see ds)) done w.can, subst (λ ds. sum ≡ before + total g.size (map see ds)) done w.is)

-- What is said of a reader once what it showed is let go.
use mathlib.Core.Option.{none}
use seplogic.Ra.Ura.{Ura}
use base.Logic.{SProp, ent, sep, emp, ex_e, ex_i, id⊢, mono_r}
use contract.Monad.{fact_i}
use types.Logic.{Logic, sem}
use borrow.Fn.Refines.{Gives, Turns, by_parts}
use denote.RattleType.{RattleType}
use denote.Ref.{MutBor}
use denote.Follow.{such_by, follows_if}
use Rattle.std.proofs.Common.{[]}
use Rattle.std.specs.Io.BufRead.{Rests}

-- less is said of it
pub rests_less : {M : Type 1} {𝓤 : Ura M} (𝓛 : Logic 𝓤) (R : RattleType) (s : MutBor R.Denot) (P Q : R.Denot → Type 0) → ((v : R.Denot) → P v → Q v)
    → ent 𝓤 (sem 𝓛 (Rests R s P)) (sem 𝓛 (Rests R s Q))
unfolding such_by
rests_less {𝓤 = 𝓤} 𝓛 R s P Q less = ex_e 𝓤 _ (λ x. ex_i 𝓤 (λ (y : (p : (R.Denot → R.Denot) × R.Denot) × ((z : R.Denot) → Unit {0}) × Q p.1). sem 𝓛
    (follows_if R R s.ghost_name none y.0.0 y.0.1)) (x.0, x.1, less x.0.1 x.2))

-- a method whose clauses are a trait's, but for more that is said of it
pub meets_less : {M : Type 1} {𝓤 : Ura M} (𝓛 : Logic 𝓤) (A X : Type 0) (F : A → X → SProp 𝓤) (R : RattleType) (s : MutBor R.Denot) (P Q : A → R.Denot → Type 0)
    → ((r : A) (v : R.Denot) → P r v → Q r v)
    → Gives 𝓤 (emp 𝓤) (Unit {0}) (λ _. emp 𝓤) (λ _. Turns 𝓤 A X (λ r e. sep 𝓤 (F r e) (sem 𝓛 (Rests R s (P r))))
    (λ r e. sep 𝓤 (F r e) (sem 𝓛 (Rests R s (Q r)))))
meets_less {𝓤 = 𝓤} 𝓛 A X F R s P Q less =
    by_parts 𝓤 [] [] (emp 𝓤) (emp 𝓤) A X (λ r e. []) (λ r e. []) (λ r e. sep 𝓤 (F r e) (sem 𝓛 (Rests R s (P r))))
    (λ r e. sep 𝓤 (F r e) (sem 𝓛 (Rests R s (Q r))))
    (fact_i 𝓤 (Unit {0}) (emp 𝓤) tt) (λ _. id⊢ 𝓤 (emp 𝓤)) (λ r e. fact_i 𝓤 (Unit {0}) _ tt) (λ r e _. mono_r 𝓤 (F r e) (rests_less 𝓛 R s (P r) (Q r) (less r)))
    (λ _. tt) (λ _ r e _. tt)

-- The sum of two sizes, each of which may be refused.
use Rattle.std.proofs.Common.{◌≡◌, ◌⊎◌, inl, inr, ℕ, ◌+◌, ◌^◌, ◌≤◌, Result, Ok, Err, subst}
use Rattle.std.specs.Prelude.{IfOk, IfErr}
use Rattle.wincode_base.specs.Grammar.{WriteGrammar}
use Rattle.wincode_base.specs.Pairs.{pair_write}
use Rattle.wincode_base.specs.Outcomes.{IsSized, SizeRefused, IsOverflow, past_usize}
use Rattle.wincode_base.specs.PairSizeLaws.{size_first, size_second, size_both, size_over}
use Rattle.wincode_base.specs.declared.error.WriteError.{WriteError}

-- both are there, and n is their sum
abbrev pub JoinedSize : Result ℕ WriteError → Result ℕ WriteError → ℕ → Type 0
JoinedSize first second n = (a : ℕ) × (b : ℕ) × (first ≡ Ok a) × (second ≡ Ok b) × (n ≡ a + b)

-- the first was refused, or it is there and the second was, or both are there and their sum is past `usize::MAX`
abbrev pub JoinedSizeRefused : Result ℕ WriteError → Result ℕ WriteError → WriteError → Type 0
JoinedSizeRefused first second e = (first ≡ Err e) ⊎ ((a : ℕ) × (first ≡ Ok a) × (second ≡ Err e))
    ⊎ ((a : ℕ) × (b : ℕ) × (first ≡ Ok a) × (second ≡ Ok b) × (2 ^ 64 ≤ a + b) × IsOverflow past_usize e)

module _ {V W : Type 0} (g : WriteGrammar V) (h : WriteGrammar W) (v : V) (w : W) where
  -- of two parts whose sizes are so, the sum is the size of both
  pub pair_sized : (first second result : Result ℕ WriteError) → IfOk first (IsSized g v) → IfOk second (IsSized h w) → IfOk result (JoinedSize first second)
      → IfOk result (IsSized (pair_write g h) (v, w))
  pair_sized first second (Err e) f s r = tt
  pair_sized first second (Ok n) f s r =
      size_both g h v w r.0 r.1 (subst (λ t. IfOk t (IsSized g v)) r.2 f) (subst (λ t. IfOk t (IsSized h w)) r.3 s) n r.4

  refused : (first second : Result ℕ WriteError) (e : WriteError) → IfOk first (IsSized g v) → IfErr first (SizeRefused g v) → IfOk second (IsSized h w)
      → IfErr second (SizeRefused h w) → JoinedSizeRefused first second e → SizeRefused (pair_write g h) (v, w) e
  refused first second e f f' s s' (inl p) = size_first g h v w e (subst (λ t. IfErr t (SizeRefused g v)) p f')
  refused first second e f f' s s' (inr (inl p)) = size_second g h v w e (subst (λ t. IfErr t (SizeRefused h w)) p.2 s')
  refused first second e f f' s s' (inr (inr p)) =
      size_over g h v w p.0 p.1 (subst (λ t. IfOk t (IsSized g v)) p.2 f) (subst (λ t. IfOk t (IsSized h w)) p.3 s) e (p.4, p.5)

  -- and a refusal of the sum is one of both
  pub pair_unsized : (first second result : Result ℕ WriteError) → IfOk first (IsSized g v) → IfErr first (SizeRefused g v) → IfOk second (IsSized h w)
      → IfErr second (SizeRefused h w) → IfErr result (JoinedSizeRefused first second) → IfErr result (SizeRefused (pair_write g h) (v, w))
  pair_unsized first second (Ok n) f f' s s' r = tt
  pair_unsized first second (Err e) f f' s s' r = refused first second e f f' s s' r

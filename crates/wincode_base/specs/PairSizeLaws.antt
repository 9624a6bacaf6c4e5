-- How the sizes of two parts, or their refusals, make that of both.
use Rattle.std.proofs.Common.{◌≡◌, ◌∙◌, ◌⊎◌, ap, ℕ, ◌+◌, ◌≤◌, ◌^◌, ◌&&◌, Bool, true, false, arith, refl, inl, inr, IsTrue}
use Rattle.wincode_base.specs.Grammar.{WriteGrammar}
use Rattle.wincode_base.specs.Pairs.{pair_write}
use Rattle.wincode_base.specs.Outcomes.{IsSized, SizeRefused, IsValueError, IsSizeError, IsOverflow, past_usize, past_u16}
use Rattle.wincode_base.specs.declared.error.WriteError.{WriteError}
use Rattle.wincode_base.specs.declared.error.WriteError.TheVariants.{LengthEncodingOverflow}

pub builtin_first : (a b : Bool) → IsTrue (a && b) → IsTrue a
builtin_first true b h = refl
builtin_first false b h = h

pub builtin_second : (a b : Bool) → IsTrue (a && b) → IsTrue b
builtin_second true b h = h
builtin_second false b h = absurd (cc h)

-- an overflow is the error of a value alone
pub overflow_unfit : (builtin : Bool) (e : WriteError) → IsOverflow past_usize e → IsValueError builtin e
overflow_unfit builtin (LengthEncodingOverflow s) o = (tt, λ x. inl o)
overflow_unfit builtin _ o = absurd o

-- the error of the size of a part that can be written where the whole can
unsized_by : {P Q : Type 0} (e : WriteError) → (Q → P) → IsOverflow past_usize e ⊎ ((P → ⊥) × IsOverflow past_u16 e) → IsOverflow past_usize e
    ⊎ ((Q → ⊥) × IsOverflow past_u16 e)
unsized_by e f (inl o) = inl o
unsized_by e f (inr o) = inr ((λ q. o.0 (f q)), o.1)

pub unsized_part : (builtin : Bool) {P Q : Type 0} (e : WriteError) → (Q → P) → IsSizeError builtin P e → IsSizeError builtin Q e
unsized_part builtin e f d = (d.0, λ t. unsized_by e f (d.1 t))

pub unsized_first : (a b : Bool) {P Q : Type 0} (e : WriteError) → (Q → P) → IsSizeError a P e → IsSizeError (a && b) Q e
unsized_first a b e f d = (d.0, λ builtin. unsized_by e f (d.1 (builtin_first a b builtin)))

pub unsized_second : (a b : Bool) {P Q : Type 0} (e : WriteError) → (Q → P) → IsSizeError b P e → IsSizeError (a && b) Q e
unsized_second a b e f d = (d.0, λ builtin. unsized_by e f (d.1 (builtin_second a b builtin)))

-- an overflow of a sum is the error of a size
pub overflow_unsized : (builtin : Bool) {Q : Type 0} (e : WriteError) → IsOverflow past_usize e → IsSizeError builtin Q e
overflow_unsized builtin e o = ((overflow_unfit builtin e o).0, λ t. inl o)

-- a sum that overflowed is refused so
pub overflow_refused : (builtin : Bool) {P Q : Type 0} (e : WriteError) → (P → Q → ⊥) → IsOverflow past_usize e → (P → Q → ⊥) × IsSizeError builtin P e
overflow_refused builtin e past o = (past, overflow_unsized builtin e o)

-- so is the error of a value that can't be written
pub unwritable : {Q : Type 0} (e : WriteError) → (Q → ⊥) → IsOverflow past_usize e ⊎ IsOverflow past_u16 e → IsOverflow past_usize e
    ⊎ ((Q → ⊥) × IsOverflow past_u16 e)
unwritable e none (inl o) = inl o
unwritable e none (inr o) = inr (none, o)

pub unwritable_first : (a b : Bool) {Q : Type 0} (e : WriteError) → (Q → ⊥) → IsValueError a e → IsSizeError (a && b) Q e
unwritable_first a b e none d = (d.0, λ builtin. unwritable e none (d.1 (builtin_first a b builtin)))

module _ {V W : Type 0} (g : WriteGrammar V) (h : WriteGrammar W) (v : V) (w : W) (e : WriteError) where
  -- the size of the first was refused
  pub size_first : SizeRefused g v e → SizeRefused (pair_write g h) (v, w) e
  size_first d = (λ c fits. d.0 c.0 (omega arith), unsized_first g.builtin h.builtin e (λ c. c.0) d.1)

  -- the size of the second was refused
  pub size_second : SizeRefused h w e → SizeRefused (pair_write g h) (v, w) e
  size_second d = (λ c fits. d.0 c.1 (omega arith), unsized_second g.builtin h.builtin e (λ c. c.1) d.1)

module _ {V W : Type 0} (g : WriteGrammar V) (h : WriteGrammar W) (v : V) (w : W) (m n : ℕ) (first : IsSized g v m) (second : IsSized h w n) where
  -- both sizes, added
  pub size_both : (k : ℕ) → k ≡ m + n → IsSized (pair_write g h) (v, w) k
  size_both k e = ((first.0, second.0), e ∙ ap (λ i. i + n) first.1 ∙ ap (λ i. g.size v + i) second.1)

  -- their sum is past `usize::MAX`
  pub size_over : (e : WriteError) → (2 ^ 64 ≤ m + n) × IsOverflow past_usize e → SizeRefused (pair_write g h) (v, w) e
  size_over e d = (λ c fits. absurd (omega (arith, d.0, fits, first.1, second.1)), overflow_unsized (g.builtin && h.builtin) e d.1)

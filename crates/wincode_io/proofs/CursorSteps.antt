-- What one writing of a cursor is, by cases and in steps.
use Rattle.std.proofs.Common.{◌≡◌, ℕ, ◌+◌, ◌-◌, ◌<◌, ◌≤◌, List, [], ◌∷◌, ◌++◌, length, take, drop, replicate, refl, ap, sym, ◌∙◌, append_assoc}
use Rattle.std.proofs.Common.{append-nil, arith, length-append, inl, inr}
use Rattle.std.proofs.lemmas.List.{take-append-le, length-replicate, drop_all, replicate-append-replicate}
use Rattle.std.proofs.lemmas.Bool.{cases_lt}
use Rattle.wincode_io.specs.Places.{Placed, placed}
use Rattle.wincode_io.specs.CursorWriters.{with_zeros, overwritten, cursor_put}

pub put_some : (s : Placed (List ℕ)) (a : List ℕ) → 0 < length a → cursor_put s a ≡ placed (overwritten s.inner s.position a) (s.position + length a)
put_some s [] h = absurd (omega arith)
put_some s (b ∷ more) h = refl

pub put_none : (s : Placed (List ℕ)) (a : List ℕ) → length a ≡ 0 → cursor_put s a ≡ s
put_none s [] h = refl
put_none s (b ∷ more) h = absurd (omega arith)

-- Where the bytes reach the position, there is no gap.
pub no_gap : (bytes : List ℕ) (p : ℕ) (a : List ℕ) → p ≤ length bytes → overwritten bytes p a ≡ take p bytes ++ (a ++ drop (p + length a) bytes)
no_gap bytes p a h = ap (λ l. l ++ (a ++ drop (p + length a) bytes)) (take-append-le p bytes (replicate (p - length bytes) 0) h)

nothing_over : (a n : ℕ) → n ≤ a → n - a ≡ 0
nothing_over a n h = omega arith

split_at : (a p n : ℕ) → a ≤ p → p ≤ n → n - a ≡ (p - a) + (n - p)
split_at a p n h k = omega arith

drop_zeros : (bytes : List ℕ) (n : ℕ) → drop n (with_zeros bytes n) ≡ drop n bytes
drop_zeros bytes n = elim (cases_lt (length bytes) n) as (λ _. drop n (with_zeros bytes n) ≡ drop n bytes) [
  | inl h ↦ drop_all n (with_zeros bytes n) (omega (
    arith,
    length-append bytes (replicate (n - length bytes) 0),
    length-replicate {A = ℕ} (n - length bytes) 0,
  )) ∙ sym (drop_all n bytes (omega arith))
  | inr h ↦ ap (λ l. drop n l) (ap (λ k. bytes ++ replicate k 0) (nothing_over (length bytes) n h) ∙ append-nil bytes)
]

take_zeros : (bytes : List ℕ) (p n : ℕ) → p ≤ n → take p (with_zeros bytes n) ≡ take p (with_zeros bytes p)
take_zeros bytes p n k = elim (cases_lt p (length bytes)) as (λ _. take p (with_zeros bytes n) ≡ take p (with_zeros bytes p)) [
  | inl h ↦ take-append-le p bytes (replicate (n - length bytes) 0) (omega arith) ∙ sym (take-append-le p bytes (replicate (p - length bytes) 0) (omega arith))
  | inr h ↦ ap (λ l. take p l) (ap (λ m. bytes ++ replicate m 0) (split_at (length bytes) p n h k)
      ∙ ap (λ l. bytes ++ l) (sym (replicate-append-replicate (p - length bytes) (n - p) 0))
      ∙ sym (append_assoc bytes (replicate (p - length bytes) 0) (replicate (n - p) 0)))
      ∙ take-append-le p (with_zeros bytes p) (replicate (n - p) 0)
      (omega (arith, length-append bytes (replicate (p - length bytes) 0), length-replicate {A = ℕ} (p - length bytes) 0))
]

-- Bytes that first grow with zeros take what is written as the bytes themselves.
pub overwritten_grown : (bytes : List ℕ) (p : ℕ) (a : List ℕ) → take p (with_zeros bytes (p + length a))
    ++ (a ++ drop (p + length a) (with_zeros bytes (p + length a))) ≡ overwritten bytes p a
overwritten_grown bytes p a = ap (λ l. l ++ (a ++ drop (p + length a) (with_zeros bytes (p + length a)))) (take_zeros bytes p (p + length a) (omega arith))
    ∙ ap (λ l. take p (with_zeros bytes p) ++ (a ++ l)) (drop_zeros bytes (p + length a))

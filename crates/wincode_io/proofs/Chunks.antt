-- Going over forms, one after another.
use Rattle.std.proofs.Common.{◌≡◌, ◌∙◌, sym, ap, ℕ, zero, suc, ◌+◌, ◌*◌, ◌<◌, ◌≤◌, List, [], ◌∷◌, ◌++◌, length, map, take, drop, refl, arith}
use Rattle.std.proofs.Common.{length-append, length-drop}
use Rattle.std.proofs.lemmas.Iterator.{YieldsList}
use Rattle.std.proofs.lemmas.List.{take_at, drop_at}
use Rattle.std.proofs.lemmas.List.FromFn.{get_or-map-range_with_len, length-map-range_with_len}
use Rattle.std.specs.Iterator.{AlwaysYields}
use Rattle.std.specs.List.{range_with_len}
use Rattle.std.specs.Prelude.{Result, Ok, Err, is_ok, true, OnOk}
use Rattle.std.specs.Simd.{first_chunks}
use Rattle.std.specs.Slice.Iter.{chunks_exact_rest, chunks_exact_size, chunks_exact_steps}
use Rattle.wincode_io.specs.Forms.{values}
use Rattle.wincode_io.specs.JoinedForms.{are_values}

yields : (k n : ℕ) (b : List ℕ) (s : _) → 0 < k → chunks_exact_size s ≡ k → chunks_exact_rest s ≡ b → length b ≡ n * k
    → AlwaysYields chunks_exact_steps (λ y. y.now) s (first_chunks k n b)
yields k zero b s some size rest long = λ x j p.
    let joined = ap length p.1.0 in
    omega (arith, joined, length-append x.now (chunks_exact_rest j), p.1.1, size, ap length rest, long, some)
yields k (suc n) b s some size rest long =
    let all : suc n * k ≡ k + n * k = omega arith in (
      (λ j p. omega (arith, p.1.0, size, ap length rest, long, all)),
      λ x j p.
          let here : length x.now ≡ k = p.1.1 ∙ size in
          let joined : b ≡ x.now ++ chunks_exact_rest j = sym rest ∙ p.1.0 in (
            sym (ap (take k) joined ∙ take_at x.now (chunks_exact_rest j) k here),
            yields k n (drop k b) j some (p.0 ∙ size) (sym (ap (drop k) joined ∙ drop_at x.now (chunks_exact_rest j) k here))
                (omega (arith, length-drop k b, long, all)),
          ),
    )

-- the chunks of n forms of k bytes
pub chunks_yield : {s : _} (k n : ℕ) (b : List ℕ) → 0 < k → chunks_exact_size s ≡ k → chunks_exact_rest s ≡ b → length b ≡ n * k
    → YieldsList chunks_exact_steps (λ y. y.now) s (first_chunks k n b)
chunks_yield {s = s} k n b some size rest long = record { runs = yields k n b s some size rest long }

module _ {X : Type 0} (value : List ℕ → X) (k : ℕ) where
  pub chunk_values : (n : ℕ) (b : List ℕ) → map value (first_chunks k n b) ≡ values value k n b
  unfolding values
  chunk_values zero b = refl
  chunk_values (suc n) b = ap (λ xs. value (take k b) ∷ xs) (chunk_values n (drop k b))

  -- of forms without bytes each is the same
  pub same_values : (n : ℕ) (b : List ℕ) → k ≡ 0 → map (λ i. value []) (range_with_len 0 n) ≡ values value k n b
  same_values n b none =
      are_values value k n b (map (λ i. value []) (range_with_len 0 n)) (length-map-range_with_len (λ i. value []) 0 n)
      (λ i d h. get_or-map-range_with_len (λ j. value []) 0 n i i d h (omega arith) ∙ ap (λ (m : ℕ). value (take m (drop (i * k) b))) (sym none))

  -- a slice holds none of more bytes than `usize` counts
  pub no_values : (m n : ℕ) (b : List ℕ) → m < k → length b ≡ n * k → length b ≤ m → values value k n b ≡ []
  unfolding values
  no_values m zero b vast long fits = refl
  no_values m (suc n) b vast long fits = let all : suc n * k ≡ k + n * k = omega arith in absurd (omega (arith, vast, long, fits, all))

-- what holds of an answer that is Ok
pub went : {E Q : Type 0} (r : Result (Unit {0}) E) → is_ok r ≡ true → OnOk r Q → Q
went (Ok x) e q = q
went (Err x) e q = absurd (cc)

-- what was added to a list
pub appended : {X : Type 0} {before mid new xs vs : List X} → new ≡ mid ++ xs → mid ≡ before → xs ≡ vs → new ≡ before ++ vs
appended {before = before} {xs = xs} e m v = e ∙ ap (λ l. l ++ xs) m ∙ ap (λ l. before ++ l) v

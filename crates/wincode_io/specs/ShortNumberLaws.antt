-- The laws of short numbers.
use Rattle.std.proofs.Common.{◌≡◌, ◌∙◌, sym, ap, ℕ, ◌+◌, ◌-◌, ◌*◌, ◌/◌, ◌%◌, ◌<◌, ◌≤◌, ◌⊎◌, inl, inr, cond, List, [], ◌∷◌, ◌++◌, length, take, drop}
use Rattle.std.proofs.Common.{zero, suc, refl, arith, length-append, append_assoc, take-append-drop}
use Rattle.std.proofs.lemmas.Bool.{lt-ltb, le-ltb, cases_lt}
use Rattle.std.proofs.Math.Seq.{take-append-add}
use Rattle.wincode_io.specs.ShortNumbers.{groups, short_encoding, BeginsGrouped, BeginsShort}

-- ---- what a number begins with

pub groups_last : (k n : ℕ) → n < 128 → groups k n ≡ n ∷ []
unfolding groups
groups_last zero n h = refl
groups_last (suc k) n h = ap (λ b. cond b (n ∷ []) ((128 + n % 128) ∷ groups k (n / 128))) (lt-ltb n 128 h)

pub groups_next : (k n : ℕ) → 128 ≤ n → groups (suc k) n ≡ (128 + n % 128) ∷ groups k (n / 128)
unfolding groups
groups_next k n h = ap (λ b. cond b (n ∷ []) ((128 + n % 128) ∷ groups k (n / 128))) (le-ltb n 128 h)

pub groups_only : (n : ℕ) → groups 0 n ≡ n ∷ []
unfolding groups
groups_only n = refl

-- ---- a short number by its bytes

pub short_in_one : (n : ℕ) → n < 128 → short_encoding n ≡ n ∷ []
short_in_one n h = groups_last 2 n h

pub short_in_two : (n : ℕ) → 128 ≤ n → n / 128 < 128 → short_encoding n ≡ (128 + n % 128) ∷ n / 128 ∷ []
short_in_two n l h = groups_next 1 n l ∙ ap (λ t. (128 + n % 128) ∷ t) (groups_last 1 (n / 128) h)

pub short_in_three : (n : ℕ) → 128 ≤ n / 128 → short_encoding n ≡ (128 + n % 128) ∷ (128 + n / 128 % 128) ∷ n / 128 / 128 ∷ []
short_in_three n l = groups_next 1 n (omega (arith, l)) ∙ ap (λ t. (128 + n % 128) ∷ t)
    (groups_next 0 (n / 128) l ∙ ap (λ t. (128 + n / 128 % 128) ∷ t) (groups_only (n / 128 / 128)))

-- ---- how long a number is

pub groups_some : (k n : ℕ) → 0 < length (groups k n)
groups_some zero n = omega (arith, ap length (groups_only n))
groups_some (suc k) n = by (cases_lt n 128)
  where
    by : (n < 128) ⊎ (128 ≤ n) → 0 < length (groups (suc k) n)
    by (inl p) = omega (arith, ap length (groups_last (suc k) n p))
    by (inr p) = omega (arith, ap length (groups_next k n p))

pub groups_most : (k n : ℕ) → length (groups k n) ≤ k + 1
groups_most zero n = omega (arith, ap length (groups_only n))
groups_most (suc k) n = by (groups_most k (n / 128)) (cases_lt n 128)
  where
    by : length (groups k (n / 128)) ≤ k + 1 → (n < 128) ⊎ (128 ≤ n) → length (groups (suc k) n) ≤ suc k + 1
    by rest (inl p) = omega (arith, ap length (groups_last (suc k) n p))
    by rest (inr p) = omega (arith, ap length (groups_next k n p), rest)

-- ---- what bytes begin with

pub nothing_grouped : (k n : ℕ) (bytes : List ℕ) → length bytes ≡ 0 → BeginsGrouped k bytes n → ⊥
nothing_grouped k n bytes none b = absurd (omega (arith, none, groups_some k n, ap length b.1, length-append (groups k n) b.0))

-- The byte is the number, or 128 more than the number mod 128, behind which the rest of the number stands.
abbrev StandsFirst : ℕ → ℕ → List ℕ → ℕ → Type 0
StandsFirst k a rest n = ((n < 128) × (a ≡ n)) ⊎ ((128 ≤ n) × (a ≡ 128 + n % 128) × BeginsGrouped k rest (n / 128))

module _ (k a : ℕ) {bytes rest : List ℕ} (is : bytes ≡ a ∷ rest) where
  pub grouped_last : a < 128 → BeginsGrouped k bytes a
  grouped_last h = (rest, is ∙ ap (λ t. t ++ rest) (sym (groups_last k a h)))

  -- A byte from 128 on stands before the groups of a number that is not 0.
  pub grouped_before : (n : ℕ) → 128 ≤ a → a < 256 → 0 < n → BeginsGrouped k rest n → BeginsGrouped (suc k) bytes (a - 128 + 128 * n)
  grouped_before n least most some b =
      let low : 128 + (a - 128 + 128 * n) % 128 ≡ a = omega (arith, least, most) in
      let high : (a - 128 + 128 * n) / 128 ≡ n = omega (arith, least, most) in
      let whole : groups (suc k) (a - 128 + 128 * n) ≡ a ∷ groups k n =
      groups_next k (a - 128 + 128 * n) (omega (arith, some)) ∙ ap (λ c. c ∷ groups k ((a - 128 + 128 * n) / 128)) low ∙ ap (λ m. a ∷ groups k m) high in
      (b.0, is ∙ ap (λ t. a ∷ t) b.1 ∙ ap (λ t. t ++ b.0) (sym whole))

  grouped_first : (n : ℕ) → BeginsGrouped (suc k) bytes n → StandsFirst k a rest n
  grouped_first n b = by (cases_lt n 128)
    where
      by : (n < 128) ⊎ (128 ≤ n) → StandsFirst k a rest n
      by (inl p) =
          let heads : a ∷ rest ≡ n ∷ b.0 = sym is ∙ b.1 ∙ ap (λ t. t ++ b.0) (groups_last (suc k) n p) in
          let same : a ≡ n = cc in inl (p, same)
      by (inr p) =
          let heads : a ∷ rest ≡ (128 + n % 128) ∷ (groups k (n / 128) ++ b.0) = sym is ∙ b.1 ∙ ap (λ t. t ++ b.0) (groups_next k n p) in
          let same : a ≡ 128 + n % 128 = cc in
          let after : rest ≡ groups k (n / 128) ++ b.0 = cc in inr (p, same, (b.0, after))

  -- behind a byte from 128 on stand the groups of a number that is not 0
  pub grouped_after : (n : ℕ) → 128 ≤ a → BeginsGrouped (suc k) bytes n → (0 < n / 128) × BeginsGrouped k rest (n / 128)
  grouped_after n least b = by (grouped_first n b)
    where
      by : StandsFirst k a rest n → (0 < n / 128) × BeginsGrouped k rest (n / 128)
      by (inl h) = absurd (omega (arith, least, h.0, h.1))
      by (inr h) = (omega (arith, h.0), h.2)

  -- a number that is not 0 begins with no byte 0
  pub grouped_some : (n : ℕ) → 0 < n → BeginsGrouped (suc k) bytes n → 0 < a
  grouped_some n some b = by (grouped_first n b)
    where
      by : StandsFirst k a rest n → 0 < a
      by (inl h) = omega (arith, some, h.1)
      by (inr h) = omega (arith, h.1)

-- the last group is the number itself
pub grouped_only : (a n : ℕ) {bytes rest : List ℕ} → bytes ≡ a ∷ rest → BeginsGrouped 0 bytes n → a ≡ n
grouped_only a n {bytes} {rest} is b = let heads : a ∷ rest ≡ n ∷ b.0 = sym is ∙ b.1 ∙ ap (λ t. t ++ b.0) (groups_only n) in cc

-- bytes begin with one number
grouped_one : (k m n : ℕ) (bytes : List ℕ) → BeginsGrouped k bytes m → BeginsGrouped k bytes n → m ≡ n
grouped_one k m n [] p q = absurd (nothing_grouped k m [] refl p)
grouped_one zero m n (a ∷ rest) p q = sym (grouped_only a m refl p) ∙ grouped_only a n refl q
grouped_one (suc k) m n (a ∷ rest) p q = by (grouped_one k (m / 128) (n / 128) rest) (grouped_first k a refl m p) (grouped_first k a refl n q)
  where
    by : (BeginsGrouped k rest (m / 128) → BeginsGrouped k rest (n / 128) → m / 128 ≡ n / 128) → StandsFirst k a rest m → StandsFirst k a rest n → m ≡ n
    by one (inl h) (inl i) = sym h.1 ∙ i.1
    by one (inl h) (inr i) = absurd (omega (arith, h.0, h.1, i.1))
    by one (inr h) (inl i) = absurd (omega (arith, i.0, i.1, h.1))
    by one (inr h) (inr i) = omega (arith, h.1, i.1, one h.2 i.2)

-- of two short numbers neither begins the other
pub short_one : (m n : ℕ) (x y : List ℕ) → short_encoding m ++ x ≡ short_encoding n ++ y → m ≡ n
short_one m n x y e = grouped_one 2 m n (short_encoding m ++ x) (x, refl) (y, e)

-- what three bytes begin with, and what stands behind them
pub short_whole : (bytes : List ℕ) (n : ℕ) → BeginsShort (take 3 bytes) n → BeginsShort bytes n
short_whole bytes n b = (
  b.0,
  (
    b.1.0 ++ drop 3 bytes,
    sym (take-append-drop 3 bytes) ∙ ap (λ t. t ++ drop 3 bytes) b.1.1
        ∙ append_assoc (short_encoding n) b.1.0 (drop 3 bytes),
  ),
)

-- three bytes show what the bytes begin with
pub short_shown : (bytes : List ℕ) (n : ℕ) → BeginsShort bytes n → BeginsShort (take 3 bytes) n
short_shown bytes n b =
    let size = groups_most 2 n in
    let spare : length (short_encoding n) + (3 - length (short_encoding n)) ≡ 3 = omega (arith, size) in
    let front : take (length (short_encoding n) + (3 - length (short_encoding n))) bytes ≡ short_encoding n ++ take (3 - length (short_encoding n)) b.1.0 =
    ap (take (length (short_encoding n) + (3 - length (short_encoding n)))) b.1.1 ∙ take-append-add (short_encoding n) b.1.0 (3 - length (short_encoding n)) in
    (b.0, (take (3 - length (short_encoding n)) b.1.0, ap (λ k. take k bytes) (sym spare) ∙ front))

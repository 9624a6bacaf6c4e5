-- The laws of forms one after another.
use Rattle.std.specs.Prelude.{◌≡◌, ℕ, ◌+◌, ◌*◌, ◌<◌, List, [], ◌∷◌, length, take, drop}
use Rattle.std.specs.List.{All, flat_map}
use Rattle.std.proofs.Common.{zero, suc, refl, sym, ap, ◌∙◌, arith, get_or, length-append, length-take, length-drop}
use Rattle.std.proofs.lemmas.List.Elements.{All-append, All-take, All-drop}
use Rattle.std.proofs.lemmas.List.{same_lists, take_at, drop_at, take-append-drop, drop-drop, nil_from_length}
use Rattle.wincode_io.specs.Bytes.{IsBytes}
use Rattle.wincode_io.specs.Forms.{values, part}

pub All-tail : {X : Type 0} (P : X → Type 0) (x : X) (xs : List X) → All P (x ∷ xs) → All P xs
All-tail P x xs h = λ k d l. h (suc k) d (omega arith)

pub All-cons : {X : Type 0} (P : X → Type 0) (x : X) (xs : List X) → P x → All P xs → All P (x ∷ xs)
All-cons P x xs p q zero d l = p
All-cons P x xs p q (suc k) d l = q k d (omega arith)

pub IsBytes-take : (n : ℕ) (b : List ℕ) → IsBytes b → IsBytes (take n b)
IsBytes-take n b h = All-take (λ y. y < 256) n b h

pub IsBytes-drop : (n : ℕ) (b : List ℕ) → IsBytes b → IsBytes (drop n b)
IsBytes-drop n b h = All-drop (λ y. y < 256) n b h

module _ {X : Type 0} (form : X → List ℕ) (s : ℕ) where
  pub length-joined : (vs : List X) → All (λ v. length (form v) ≡ s) vs → length (flat_map form vs) ≡ length vs * s
  length-joined [] h = omega arith
  length-joined (v ∷ vs) h =
      let here : length (form v) ≡ s = h 0 v (omega arith) in
      let rest = length-joined vs (All-tail (λ w. length (form w) ≡ s) v vs h) in
      omega (arith, length-append (form v) (flat_map form vs), here, rest)

  pub IsBytes-joined : (vs : List X) → All (λ v. IsBytes (form v)) vs → IsBytes (flat_map form vs)
  IsBytes-joined [] h = λ k d l. absurd (omega arith)
  IsBytes-joined (v ∷ vs) h =
      All-append (λ y. y < 256) (form v) (flat_map form vs) (h 0 v (omega arith)) (IsBytes-joined vs (All-tail (λ w. IsBytes (form w)) v vs h))

module _ {X : Type 0} (value : List ℕ → X) (s : ℕ) where
  pub length-values : (n : ℕ) (b : List ℕ) → length (values value s n b) ≡ n
  unfolding values
  length-values zero b = refl
  length-values (suc n) b = ap suc (length-values n (drop s b))

  pub values_at : (n : ℕ) (b : List ℕ) (k : ℕ) (d : X) → k < n → get_or (values value s n b) k d ≡ value (part s b k)
  unfolding values
  values_at zero b k d h = absurd (omega arith)
  values_at (suc n) b zero d h =
      let e : 0 ≡ 0 * s = omega arith in
      ap (λ (i : ℕ). value (take s (drop i b))) e
  values_at (suc n) b (suc k) d h =
      let e : s + k * s ≡ suc k * s = omega arith in
      values_at n (drop s b) k d (omega arith)
      ∙ ap (λ (x : List ℕ). value (take s x)) (drop-drop (k * s) s b)
      ∙ ap (λ (i : ℕ). value (take s (drop i b))) e

  module _ (form : X → List ℕ) where
    pub values-joined : (vs : List X) → All (λ v. length (form v) ≡ s) vs → All (λ v. value (form v) ≡ v) vs → values value s (length vs) (flat_map form vs)
        ≡ vs
    unfolding values
    values-joined [] h e = refl
    values-joined (v ∷ vs) h e =
        let long : length (form v) ≡ s = h 0 v (omega arith) in
        let back : value (form v) ≡ v = e 0 v (omega arith) in
        let rest = values-joined vs (All-tail (λ w. length (form w) ≡ s) v vs h) (All-tail (λ w. value (form w) ≡ w) v vs e) in
        rw (take_at (form v) (flat_map form vs) s long, drop_at (form v) (flat_map form vs) s long, back, rest) refl

    pub joined-values : ((b : List ℕ) → IsBytes b → length b ≡ s → form (value b) ≡ b) → (n : ℕ) (b : List ℕ) → IsBytes b → length b ≡ n * s
        → flat_map form (values value s n b) ≡ b
    unfolding values
    joined-values law zero b h e = sym (nil_from_length b (omega arith))
    joined-values law (suc n) b h e =
        let front = law (take s b) (IsBytes-take s b h) (omega (arith, length-take s b)) in
        let rest = joined-values law n (drop s b) (IsBytes-drop s b h) (omega (arith, length-drop s b)) in
        rw (front, rest) (take-append-drop s b)

  pub All-values : (P : X → Type 0) → ((b : List ℕ) → IsBytes b → length b ≡ s → P (value b)) → (n : ℕ) (b : List ℕ) → IsBytes b → length b ≡ n * s
      → All P (values value s n b)
  unfolding values
  All-values P law zero b h e = λ k d l. absurd (omega arith)
  All-values P law (suc n) b h e =
      All-cons P _ _ (law (take s b) (IsBytes-take s b h) (omega (arith, length-take s b)))
      (All-values P law n (drop s b) (IsBytes-drop s b h) (omega (arith, length-drop s b)))

  -- a list with these values at its places
  pub are_values : (n : ℕ) (b : List ℕ) (xs : List X) → length xs ≡ n → ((k : ℕ) (d : X) → k < n → get_or xs k d ≡ value (part s b k)) → xs ≡ values value s n b
  are_values n b xs e h =
      same_lists xs (values value s n b) (e ∙ sym (length-values n b))
      (λ k d l. h k d (rw (← e) l) ∙ sym (values_at n b k d (rw (← e) l)))

-- The last part with a place, and items where all parts have theirs.
use Rattle.std.proofs.Common.{◌≡◌, ◌∙◌, sym, ap, subst, ℕ, ◌+◌, ◌-◌, ◌≤◌, zero, suc, true, if◌then◌else◌, List, [], ◌∷◌, length, map, Option, Some, arith}
use Rattle.std.specs.Prelude.{slice_get, option_and_then, option_map, SomeIff}
use Rattle.std.proofs.lemmas.List.{length-map}
use Rattle.std.proofs.lemmas.Option.{slice_get-map}
use Rattle.wincode_describe.specs.Parts.{Part, seen}
use Rattle.wincode_describe.specs.Places.{Walk, is_full, number_of, last_number, item_at, items_walk}
use Rattle.wincode_describe.specs.declared.shown.Shown.{Shown}

-- the number of the last one with a place, where so many have one
pub last_some : (ps : List Shown) {X : Type 0} (f : X → List ℕ) (qs : List X) (i : ℕ) (p : Option Shown) → length qs ≡ suc i → slice_get ps i ≡ p
    → last_number (map seen ps) (map f qs) ≡ option_and_then number_of (option_map seen p)
last_some ps f [] i p e is = absurd (omega (arith, e))
last_some ps f (q ∷ qs) i p e is =
    ap (λ k. option_and_then number_of (slice_get (map seen ps) k)) (length-map qs f ∙ omega (arith, e))
    ∙ ap (option_and_then number_of) (slice_get-map seen ps i ∙ ap (option_map seen) is)

-- the index before so many
pub one_before : (r : Option ℕ) (n i : ℕ) → SomeIff r (1 ≤ n) (n - 1) → r ≡ Some i → n ≡ suc i
one_before r n i h e =
    let P : Option ℕ → Type 0 = λ o. SomeIff o (1 ≤ n) (n - 1) in
    let k : (1 ≤ n) × (i ≡ n - 1) = subst P e h in
    omega (arith, k.0, k.1)

module _ (parts : List Part) (item : Walk) (at : List ℕ) (so : List (List ℕ)) where
  full_more : (k i n : ℕ) → n ≡ k + i → is_full parts (items_walk parts item i at so) ≡ true → items_walk parts item n at so ≡ items_walk parts item i at so
  full_more zero i n q e = ap (λ m. items_walk parts item m at so) (omega (arith, q))
  full_more (suc k) i zero q e = absurd (omega (arith, q))
  full_more (suc k) i (suc n) q e =
      let same = full_more k i n (omega (arith, q)) e in
      ap (λ b. if b then items_walk parts item n at so else item (item_at at n) (items_walk parts item n at so)) (ap (is_full parts) same ∙ e)
      ∙ same

  -- where all have their place, more items add none
  pub full_items : (i n : ℕ) → i ≤ n → is_full parts (items_walk parts item i at so) ≡ true → items_walk parts item i at so ≡ items_walk parts item n at so
  full_items i n le e = sym (full_more (n - i) i n (omega (arith, le)) e)

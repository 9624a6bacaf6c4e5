-- A collection is made of its own items, in any order, and of no more items than there were.
use Rattle.std.proofs.Common.{◌≡◌, ◌∙◌, sym, ap, ◌+◌, ◌≤◌, List, [], ◌∷◌, ◌++◌, length, refl, arith, None, Bool, true, false, inl, inr}
use Rattle.std.specs.Prelude.{reverse}
use Rattle.std.specs.Option.{option_or, option_map, is_some}
use Rattle.std.specs.List.{find, list_any, count_by, IsDistinct, AllByRecursion}
use Rattle.std.specs.List.Sorted.{IsStrictlySortedBy, IsPermutation}
use Rattle.std.specs.Map.{keys_of, lookup}
use Rattle.std.specs.Cmp.{IsTotalOrder, IsEquivalence, eq_by_cmp_equiv}
use Rattle.std.specs.Ordering.{eq_by_cmp}
use Rattle.std.specs.declared.cmp.Ordering.{Ordering}
use Rattle.std.proofs.lemmas.Bool.{cases_Bool}
use Rattle.std.proofs.lemmas.List.{reverse-append}
use Rattle.std.proofs.lemmas.List.Sums.{sum_by-cons}
use Rattle.std.proofs.lemmas.List.Sorted.{length_permutation}
use Rattle.std.proofs.lemmas.Map.{lookup-none}
use Rattle.std.proofs.lemmas.Map.Keys.{IsDistinct-from_sorted, IsDistinct-tail}
use Rattle.std.proofs.lemmas.Map.Entries.{none_past_head, length-keys_of}
use Rattle.std.proofs.lemmas.Map.Made.{length-le_from_is_member, length-from_keys, IsDistinct-from_count}
use Rattle.wincode_collect.specs.Collections.{IsMapOf}
use Rattle.wincode_collect.specs.CollectionLaws.{option_or_none, any_found, find_values, perm_find}
use Rattle.wincode_collect.specs.SeenLaws.{some_seen}

lookup_append : {K X : Type 0} (t : K → Bool) (xs ys : List (K × X)) → lookup t (xs ++ ys) ≡ option_or (lookup t xs) (lookup t ys)
lookup_append t [] ys = refl
lookup_append t (x ∷ xs) ys = elim (cases_Bool (t x.0)) [ inl b ↦ rw b refl | inr b ↦ rw b (lookup_append t xs ys) ]

module _ {K X : Type 0} (eq : K → K → Bool) (laws : IsEquivalence eq) where
  lookup_reverse : (q : K) (es : List (K × X)) → IsDistinct eq (keys_of es) → lookup (eq q) es ≡ lookup (eq q) (reverse es)
  lookup_reverse q [] s = refl
  lookup_reverse q (e ∷ es) s =
      let t = eq q in
      let rest = lookup_reverse q es (IsDistinct-tail eq e.0 (keys_of es) s) in
      let back : lookup t (reverse (e ∷ es)) ≡ option_or (lookup t es) (lookup t (e ∷ [])) =
      ap (lookup t) (reverse-append (e ∷ []) es) ∙ lookup_append t (reverse es) (e ∷ []) ∙ ap (λ x. option_or x (lookup t (e ∷ []))) (sym rest) in
      let both : lookup t (e ∷ es) ≡ option_or (lookup t es) (lookup t (e ∷ [])) = elim (cases_Bool (eq q e.0)) [
        | inl b ↦ let none : lookup t es ≡ None = lookup-none t es (none_past_head laws q e es s b) in rw none (rw b refl)
        | inr b ↦ rw b (sym (option_or_none _))
      ] in
      both ∙ sym back

module _ {K : Type 0} (eq : K → K → Bool) (laws : IsEquivalence eq) where
  -- as many keys as there are in the list, at the most
  pub keys_fewer : (ds fs : List K) → IsDistinct eq fs → ((q : K) → find (eq q) fs ≡ find (eq q) ds) → length fs ≤ length ds
  keys_fewer ds fs d h = length-le_from_is_member laws fs ds d (λ q m. any_found (eq q) ds ∙ ap is_some (sym (h q)) ∙ sym (any_found (eq q) fs) ∙ m)

module _ {K X : Type 0} (cmp : K → K → Ordering) (o : IsTotalOrder cmp) where
  pub own_map : (es : List (K × X)) → IsStrictlySortedBy cmp (keys_of es) → IsMapOf cmp es es
  own_map es s = record {
    keys = record { ordered = s; firsts = λ q. refl };
    lasts =
        λ q. lookup_reverse (eq_by_cmp cmp) (eq_by_cmp_equiv o) q es (IsDistinct-from_sorted cmp _ s);
  }

  pub map_shorter : (ds fs : List (K × X)) → IsMapOf cmp ds fs → length fs ≤ length ds
  map_shorter ds fs m =
      let l = keys_fewer (eq_by_cmp cmp) (eq_by_cmp_equiv o) (keys_of ds) (keys_of fs) (IsDistinct-from_sorted cmp _ m.keys.ordered) m.keys.firsts in
      let a = length-keys_of fs in let b = length-keys_of ds in omega (arith, l, a, b)

module _ {K A : Type 0} (eq : K → K → Bool) (laws : IsEquivalence eq) (f : K → A) where
  -- as many keys that find alike, of which the others are distinct, are distinct
  pub once_too : (ks ls : List K) → IsDistinct eq ls → length ks ≡ length ls → ((q : K) → option_map f (find (eq q) ks) ≡ option_map f (find (eq q) ls))
      → IsDistinct eq ks
  once_too ks ls d n h =
      let members : (q : K) → list_any (eq q) ls ≡ list_any (eq q) ks =
      λ q. any_found (eq q) ls ∙ sym (some_seen f (find (eq q) ls)) ∙ ap is_some (sym (h q)) ∙ some_seen f (find (eq q) ks) ∙ sym (any_found (eq q) ks) in
      IsDistinct-from_count laws ks (sym (length-from_keys laws ls ks d members) ∙ sym n)

-- pairs that are alike where their keys are equal
module _ {K X : Type 0} (eq : K → K → Bool) (laws : IsEquivalence eq) where
  abbrev eq_key : K × X → K × X → Bool
  eq_key x y = eq x.0 y.0

  eq_key_laws : IsEquivalence eq_key
  eq_key_laws = record { refl = λ x. laws.refl x.0; symm = λ x y. laws.symm x.0 y.0; congr = λ x y z. laws.congr x.0 y.0 z.0 }

  apart : (k : K) (es : List (K × X)) → AllByRecursion (λ y. eq k y ≡ false) (keys_of es) → AllByRecursion (λ y. eq k y.0 ≡ false) es
  apart k [] a = a
  apart k (e ∷ es) a = (a.0, apart k es a.1)

  distinct_pairs : (es : List (K × X)) → IsDistinct eq (keys_of es) → IsDistinct eq_key es
  unfolding IsDistinct
  distinct_pairs [] d = d
  distinct_pairs (e ∷ es) d = (apart e.0 es d.0, distinct_pairs es d.1)

  perm_entry : (q : K) (xs ys : List (K × X)) → IsPermutation xs ys → IsDistinct eq (keys_of xs) → find (λ e. eq q e.0) ys ≡ find (λ e. eq q e.0) xs
  perm_entry q [] [] p d = refl
  perm_entry q [] (y ∷ ys) p d = absurd (omega (arith, length_permutation [] (y ∷ ys) p))
  perm_entry q (x ∷ xs) ys p d = perm_find eq_key eq_key_laws (q, x.1) (x ∷ xs) ys p (distinct_pairs (x ∷ xs) d)

  pub perm_lookup : (q : K) (xs ys : List (K × X)) → IsPermutation xs ys → IsDistinct eq (keys_of xs) → lookup (eq q) ys ≡ lookup (eq q) xs
  perm_lookup q xs ys p d = find_values (eq q) ys ∙ ap (option_map (λ e. e.1)) (perm_entry q xs ys p d) ∙ sym (find_values (eq q) xs)

pub count_all : {A : Type 0} (xs : List A) → count_by (λ x. true) xs ≡ length xs
count_all [] = refl
count_all (x ∷ xs) = sum_by-cons (λ y. 1) x xs ∙ ap (λ n. 1 + n) (count_all xs) ∙ omega arith

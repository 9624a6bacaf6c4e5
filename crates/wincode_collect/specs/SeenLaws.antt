-- Where the same is seen of two lists, the same is seen of what is made of them.
use Rattle.std.proofs.Common.{◌≡◌, ◌∙◌, sym, ap, subst, ℕ, List, [], ◌∷◌, ◌++◌, length, refl, arith, Some, None, Bool, true, cond, map, inl, inr, true≢false}
use Rattle.std.specs.Prelude.{Option, reverse}
use Rattle.std.specs.Option.{option_map, is_some}
use Rattle.std.specs.List.{find, AllByRecursion, IsDistinct}
use Rattle.std.specs.List.Sorted.{IsStrictlySortedBy, IsPermutation}
use Rattle.std.specs.Map.{keys_of, lookup}
use Rattle.std.specs.BTreeMap.{is_at}
use Rattle.std.specs.Cmp.{IsTotalOrder, IsEquivalence, Equal-is, tied_itself, alike_right}
use Rattle.std.specs.Ordering.{is_eq, ordering_reverse}
use Rattle.std.specs.declared.cmp.Ordering.{Ordering}
use Rattle.std.specs.declared.cmp.Ordering.TheVariants.{Less, Equal, Greater}
use Rattle.std.proofs.lemmas.Bool.{cases_Bool}
use Rattle.std.proofs.lemmas.List.{reverse-append, map-append, map-id}
use Rattle.std.proofs.lemmas.List.Sorted.{IsPermutation-map, sum_by-IsPermutation}
use Rattle.std.proofs.lemmas.Map.Keys.{sorted_head, sorted_tail}
use Rattle.std.proofs.lemmas.Map.Entries.{length-keys_of}
use Rattle.std.proofs.lemmas.Map.Made.{length-from_same_keys}
use Rattle.wincode_collect.specs.Collections.{IsSetOf, IsMapOf, IsHashSetOf, IsHashMapOf}
use Rattle.wincode_collect.specs.CollectionLaws.{same_test, below_all, find_keys, find_values, any_found}
use Rattle.wincode_collect.specs.Seen.{sees, HashSetSeen, HashMapSeen, hash_set_sees, hash_map_sees, bag_of, heap_sees, Made}

pub map_reverse : {A B : Type 0} (f : A → B) (xs : List A) → map f (reverse xs) ≡ reverse (map f xs)
map_reverse f [] = refl
map_reverse f (x ∷ xs) = ap (map f) (reverse-append (x ∷ []) xs) ∙ map-append f (reverse xs) (x ∷ []) ∙ ap (λ l. l ++ (f x ∷ [])) (map_reverse f xs)
    ∙ sym (reverse-append (f x ∷ []) (map f xs))

-- a test that tells only what is seen finds alike in lists of which the same is seen
module _ {D A : Type 0} (see : D → A) (t : D → Bool) (alike : (x y : D) → see x ≡ see y → t x ≡ t y) where
  pub find_alike : (ds es : List D) → map see ds ≡ map see es → option_map see (find t ds) ≡ option_map see (find t es)
  find_alike [] [] e = refl
  find_alike [] (y ∷ es) e = absurd (omega (arith, ap length e))
  find_alike (x ∷ ds) [] e = absurd (omega (arith, ap length e))
  find_alike (x ∷ ds) (y ∷ es) e =
      let h : see x ≡ see y = cc in
      let k : map see ds ≡ map see es = cc in
      let same = alike x y h in
      let r = find_alike ds es k in
      elim (cases_Bool (t y)) [ inl b ↦ rw (same ∙ b) (rw b (ap Some h)) | inr b ↦ rw (same ∙ b) (rw b r) ]

module _ {K X A B : Type 0} (f : K → A) (g : X → B) (t : K → Bool) (alike : (x y : K) → f x ≡ f y → t x ≡ t y) where
  pub lookup_alike : (ds es : List (K × X)) → map (sees f g) ds ≡ map (sees f g) es → option_map g (lookup t ds) ≡ option_map g (lookup t es)
  lookup_alike [] [] e = refl
  lookup_alike [] (y ∷ es) e = absurd (omega (arith, ap length e))
  lookup_alike (x ∷ ds) [] e = absurd (omega (arith, ap length e))
  lookup_alike (x ∷ ds) (y ∷ es) e =
      let h : sees f g x ≡ sees f g y = cc in
      let k : map (sees f g) ds ≡ map (sees f g) es = cc in
      let same = alike x.0 y.0 (ap (λ p. p.0) h) in
      let value : g x.1 ≡ g y.1 = ap (λ p. p.1) h in
      let r = lookup_alike ds es k in
      elim (cases_Bool (t y.0)) [ inl b ↦ rw (same ∙ b) (rw b (ap Some value)) | inr b ↦ rw (same ∙ b) (rw b r) ]

module _ {K : Type 0} (cmp : K → K → Ordering) (o : IsTotalOrder cmp) where
  module _ {D A : Type 0} (key : D → K) (see : D → A) where
    abbrev at : K → List D → Option D
    at q ds = find (λ d. is_at (cmp q) (key d)) ds

    not_some : (v : A) → Some v ≡ None → ⊥
    not_some v e = true≢false (ap is_some e)

    none_at : (q : K) (ds : List D) → AllByRecursion (λ y. cmp q y ≡ Less) (map key ds) → at q ds ≡ None
    none_at q [] a = refl
    none_at q (d ∷ ds) a = rw a.0 (none_at q ds a.1)

    -- no key past the first is equal to what the first is
    pub past_at : (q : K) (d : D) (ds : List D) → IsStrictlySortedBy cmp (map key (d ∷ ds)) → is_eq (cmp q (key d)) ≡ true → at q ds ≡ None
    past_at q d ds s e = ap (λ t. find (λ x. t (key x)) ds) (same_test cmp o q (key d) e) ∙ none_at (key d) ds (sorted_head cmp (key d) (map key ds) s)

    from_at : (q : K) (d : D) (ds : List D) → IsStrictlySortedBy cmp (map key (d ∷ ds)) → cmp q (key d) ≡ Less → at q (d ∷ ds) ≡ None
    from_at q d ds s l = none_at q (d ∷ ds) (l, below_all cmp o q (key d) (map key ds) l (sorted_head cmp (key d) (map key ds) s))

    head_at : (q : K) (d : D) (ds : List D) → cmp q (key d) ≡ Equal → option_map see (at q (d ∷ ds)) ≡ Some (see d)
    head_at q d ds e = rw e refl

    own_at : (d : D) (ds : List D) → option_map see (at (key d) (d ∷ ds)) ≡ Some (see d)
    own_at d ds = head_at (key d) d ds (tied_itself o (key d))

    by_heads : (x y : D) (xs ys : List D) → IsStrictlySortedBy cmp (map key (x ∷ xs)) → IsStrictlySortedBy cmp (map key (y ∷ ys))
        → ((q : K) → option_map see (at q (x ∷ xs)) ≡ option_map see (at q (y ∷ ys))) → (r : Ordering) → cmp (key x) (key y) ≡ r → cmp (key x) (key y) ≡ Equal
    by_heads x y xs ys s t h Less p = absurd (not_some (see x) (sym (own_at x xs) ∙ h (key x) ∙ ap (option_map see) (from_at (key x) y ys t p)))
    by_heads x y xs ys s t h Equal p = p
    by_heads x y xs ys s t h Greater p = absurd (not_some (see y)
        (sym (own_at y ys) ∙ sym (h (key y)) ∙ ap (option_map see) (from_at (key y) x xs s (o.antisymm (key y) (key x) ∙ ap ordering_reverse p))))

    -- two lists in order where each key finds what is seen alike are seen alike
    pub seen_one : (xs ys : List D) → IsStrictlySortedBy cmp (map key xs) → IsStrictlySortedBy cmp (map key ys)
        → ((q : K) → option_map see (at q xs) ≡ option_map see (at q ys)) → map see xs ≡ map see ys
    seen_one [] [] s t h = refl
    seen_one [] (y ∷ ys) s t h = absurd (not_some (see y) (sym (own_at y ys) ∙ sym (h (key y))))
    seen_one (x ∷ xs) [] s t h = absurd (not_some (see x) (sym (own_at x xs) ∙ h (key x)))
    seen_one (x ∷ xs) (y ∷ ys) s t h =
        let heads = by_heads x y xs ys s t h (cmp (key x) (key y)) refl in
        let whole : Some (see x) ≡ Some (see y) = sym (own_at x xs) ∙ h (key x) ∙ head_at (key x) y ys heads in
        let first : see x ≡ see y = cc in
        let tails : (q : K) → option_map see (at q xs) ≡ option_map see (at q ys) = λ q.
        let same : is_eq (cmp q (key x)) ≡ is_eq (cmp q (key y)) = ap is_eq (alike_right o (key x) (key y) q heads) in
        let both : option_map see (at q (x ∷ xs)) ≡ option_map see (at q (y ∷ ys)) = h q in
        elim (cases_Bool (is_eq (cmp q (key y)))) [
          | inl b ↦ ap (option_map see) (past_at q x xs s (same ∙ b) ∙ sym (past_at q y ys t b))
          | inr b ↦ let mid : option_map see (at q (x ∷ xs)) ≡ option_map see (at q ys) = rw b at both in rw (same ∙ b) at mid
        ] in
        let rest = seen_one xs ys (sorted_tail cmp (key x) (map key xs) s) (sorted_tail cmp (key y) (map key ys) t) tails in
        cc

both_seen : {K X A B : Type 0} (f : K → A) (g : X → B) (x y : Option (K × X)) → option_map f (option_map (λ e. e.0) x) ≡ option_map f (option_map (λ e. e.0) y)
    → option_map g (option_map (λ e. e.1) x) ≡ option_map g (option_map (λ e. e.1) y) → option_map (sees f g) x ≡ option_map (sees f g) y
both_seen f g None None h k = refl
both_seen f g None (Some y) h k = absurd (true≢false (ap is_some (sym h)))
both_seen f g (Some x) None h k = absurd (true≢false (ap is_some h))
both_seen f g (Some x) (Some y) h k =
    let m : f x.0 ≡ f y.0 = cc in
    let n : g x.1 ≡ g y.1 = cc in
    λ i. Some (m i, n i)

pub keys_seen : {K X A B : Type 0} (f : K → A) (g : X → B) (ds : List (K × X)) → map f (keys_of ds) ≡ keys_of (map (sees f g) ds)
keys_seen f g [] = refl
keys_seen f g (d ∷ ds) = ap (λ l. f d.0 ∷ l) (keys_seen f g ds)

module _ {K X A B : Type 0} (cmp : K → K → Ordering) (o : IsTotalOrder cmp) (eq : K → K → Bool) (match : (x y : K) → eq x y ≡ is_eq (cmp x y)) (f : K → A)
    (g : X → B) (alike : (x y : K) → f x ≡ f y → eq x y ≡ true) where
  test_alike : (q x y : K) → f x ≡ f y → is_at (cmp q) x ≡ is_at (cmp q) y
  test_alike q x y e = ap is_eq (alike_right o x y q ((Equal-is (cmp x y)).0 (sym (match x y) ∙ alike x y e)))

  pub map_one : (ds es : List (K × X)) (v w : List (A × B)) → map (sees f g) ds ≡ map (sees f g) es → Made (IsMapOf cmp) (map (sees f g)) ds v
      → Made (IsMapOf cmp) (map (sees f g)) es w → v ≡ w
  map_one ds es v w e m n =
      let keys : map f (keys_of ds) ≡ map f (keys_of es) = keys_seen f g ds ∙ ap keys_of e ∙ sym (keys_seen f g es) in
      let back : map (sees f g) (reverse ds) ≡ map (sees f g) (reverse es) = map_reverse (sees f g) ds ∙ ap reverse e ∙ sym (map_reverse (sees f g) es) in
      let firsts : (q : K) → option_map f (find (is_at (cmp q)) (keys_of m.0)) ≡ option_map f (find (is_at (cmp q)) (keys_of n.0)) =
      λ q. ap (option_map f) (m.1.keys.firsts q) ∙ find_alike f (is_at (cmp q)) (test_alike q) (keys_of ds) (keys_of es) keys
      ∙ sym (ap (option_map f) (n.1.keys.firsts q)) in
      let lasts : (q : K) → option_map g (lookup (is_at (cmp q)) m.0) ≡ option_map g (lookup (is_at (cmp q)) n.0) =
      λ q. ap (option_map g) (m.1.lasts q) ∙ lookup_alike f g (is_at (cmp q)) (test_alike q) (reverse ds) (reverse es) back
      ∙ sym (ap (option_map g) (n.1.lasts q)) in
      m.2 ∙ seen_one cmp o (λ e. e.0) (sees f g) m.0 n.0 m.1.keys.ordered n.1.keys.ordered (λ q. both_seen f g _ _
      (ap (option_map f) (sym (find_keys (is_at (cmp q)) m.0)) ∙ firsts q ∙ ap (option_map f) (find_keys (is_at (cmp q)) n.0))
      (ap (option_map g) (sym (find_values (is_at (cmp q)) m.0)) ∙ lasts q ∙ ap (option_map g) (find_values (is_at (cmp q)) n.0)))
      ∙ sym n.2

module _ {K A : Type 0} (cmp : K → K → Ordering) (o : IsTotalOrder cmp) (eq : K → K → Bool) (match : (x y : K) → eq x y ≡ is_eq (cmp x y)) (f : K → A)
    (alike : (x y : K) → f x ≡ f y → eq x y ≡ true) where
  own_keys : (ks : List K) → IsStrictlySortedBy cmp ks → IsStrictlySortedBy cmp (map (λ k. k) ks)
  own_keys ks s = subst (IsStrictlySortedBy cmp) (sym (map-id ks)) s

  pub set_one : (ds es : List K) (v w : List A) → map f ds ≡ map f es → Made (IsSetOf cmp) (map f) ds v → Made (IsSetOf cmp) (map f) es w → v ≡ w
  set_one ds es v w e m n =
      m.2 ∙ seen_one cmp o (λ k. k) f m.0 n.0 (own_keys m.0 m.1.ordered) (own_keys n.0 n.1.ordered)
      (λ q. ap (option_map f) (m.1.firsts q) ∙ find_alike f (is_at (cmp q))
      (λ x y h. ap is_eq (alike_right o x y q ((Equal-is (cmp x y)).0 (sym (match x y) ∙ alike x y h)))) ds es e ∙ sym (ap (option_map f) (n.1.firsts q)))
      ∙ sym n.2

pub some_seen : {K A : Type 0} (f : K → A) (x : Option K) → is_some (option_map f x) ≡ is_some x
some_seen f None = refl
some_seen f (Some x) = refl

module _ {K A : Type 0} (eq : K → K → Bool) (laws : IsEquivalence eq) (f : K → A) where
  -- where each key finds what is seen alike, there are as many
  same_count : (ks ls : List K) → IsDistinct eq ks → IsDistinct eq ls → ((q : K) → option_map f (find (eq q) ks) ≡ option_map f (find (eq q) ls)) → length ks
      ≡ length ls
  same_count ks ls d e h = length-from_same_keys laws ks ls d e
      (λ q. any_found (eq q) ks ∙ sym (some_seen f (find (eq q) ks)) ∙ ap is_some (h q) ∙ some_seen f (find (eq q) ls) ∙ sym (any_found (eq q) ls))

  module _ (alike : (x y : K) → f x ≡ f y → eq x y ≡ true) where
    hash_alike : (q x y : K) → f x ≡ f y → eq q x ≡ eq q y
    hash_alike q x y e = laws.symm q x ∙ laws.congr x y q (alike x y e) ∙ laws.symm y q

    same_firsts : (ds es ks ls : List K) → map f ds ≡ map f es → IsHashSetOf eq ds ks → IsHashSetOf eq es ls → (q : K) → option_map f (find (eq q) ks)
        ≡ option_map f (find (eq q) ls)
    same_firsts ds es ks ls e m n q = ap (option_map f) (m.firsts q) ∙ find_alike f (eq q) (hash_alike q) ds es e ∙ sym (ap (option_map f) (n.firsts q))

    pub hash_set_one : (ds es : List K) (v w : HashSetSeen K A) → map f ds ≡ map f es → Made (IsHashSetOf eq) (hash_set_sees eq f) ds v
        → Made (IsHashSetOf eq) (hash_set_sees eq f) es w → v ≡ w
    hash_set_one ds es v w e m n =
        let firsts = same_firsts ds es m.0 n.0 e m.1 n.1 in
        let count = same_count m.0 n.0 m.1.once n.1.once firsts in
        let same : hash_set_sees eq f m.0 ≡ hash_set_sees eq f n.0 = λ i. ((λ q. firsts q i), count i) in
        m.2 ∙ same ∙ sym n.2

    module _ {X B : Type 0} (g : X → B) where
      pub hash_map_one : (ds es : List (K × X)) (v w : HashMapSeen K A B) → map (sees f g) ds ≡ map (sees f g) es
          → Made (IsHashMapOf eq) (hash_map_sees eq f g) ds v → Made (IsHashMapOf eq) (hash_map_sees eq f g) es w → v ≡ w
      hash_map_one ds es v w e m n =
          let keys : map f (keys_of ds) ≡ map f (keys_of es) = keys_seen f g ds ∙ ap keys_of e ∙ sym (keys_seen f g es) in
          let back : map (sees f g) (reverse ds) ≡ map (sees f g) (reverse es) = map_reverse (sees f g) ds ∙ ap reverse e ∙ sym (map_reverse (sees f g) es) in
          let firsts = same_firsts (keys_of ds) (keys_of es) (keys_of m.0) (keys_of n.0) keys m.1.keys n.1.keys in
          let lasts : (q : K) → option_map g (lookup (eq q) m.0) ≡ option_map g (lookup (eq q) n.0) =
          λ q. ap (option_map g) (m.1.lasts q) ∙ lookup_alike f g (eq q) (hash_alike q) (reverse ds) (reverse es) back
          ∙ sym (ap (option_map g) (n.1.lasts q)) in
          let count : length m.0 ≡ length n.0 = sym (length-keys_of m.0) ∙ same_count (keys_of m.0) (keys_of n.0) m.1.keys.once n.1.keys.once firsts
          ∙ length-keys_of n.0 in
          let same : hash_map_sees eq f g m.0 ≡ hash_map_sees eq f g n.0 = λ i. ((λ q. firsts q i), (λ q. lasts q i), count i) in
          m.2 ∙ same ∙ sym n.2

module _ {D A : Type 0} (see : D → A) where
  pub same_bag : (xs ys : List D) → IsPermutation xs ys → heap_sees see ys ≡ heap_sees see xs
  same_bag xs ys p = let each : (test : A → Bool) → heap_sees see ys test ≡ heap_sees see xs test =
      λ test. sum_by-IsPermutation (λ x. cond (test x) 1 0) (map see xs) (map see ys) (IsPermutation-map see xs ys p) in λ i test. each test i

  pub bag_one : (ds es : List D) (v w : (A → Bool) → ℕ) → map see ds ≡ map see es → Made IsPermutation (heap_sees see) ds v
      → Made IsPermutation (heap_sees see) es w → v ≡ w
  bag_one ds es v w e m n = m.2 ∙ same_bag ds m.0 m.1 ∙ ap bag_of e ∙ sym (same_bag es n.0 n.1) ∙ sym n.2

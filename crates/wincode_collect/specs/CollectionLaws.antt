-- How one more item changes what a collection is made of.
use Rattle.std.proofs.Common.{◌≡◌, ◌∙◌, sym, ap, List, [], ◌∷◌, ◌++◌, refl, Some, None, Bool, true, false, cond, inl, inr, true≢false, ◌⊎◌}
use Rattle.std.specs.Prelude.{Option, not}
use Rattle.std.specs.Option.{option_map, option_or, is_some, MatchOption}
use Rattle.std.specs.List.{find, All, AllByRecursion, IsDistinct, list_any}
use Rattle.std.specs.Bool.{MatchBool}
use Rattle.std.specs.List.Sorted.{IsStrictlySortedBy, IsPermutation}
use Rattle.std.specs.Map.{keys_of, lookup, set_value}
use Rattle.std.specs.BTreeMap.{is_at, insert_entry}
use Rattle.std.specs.BTreeSet.{insert_key}
use Rattle.std.specs.Cmp.{IsTotalOrder, IsEquivalence, Equal-is, tied_itself, alike_right, eq_by_cmp_equiv}
use Rattle.std.specs.Ordering.{is_eq, match_ordering}
use Rattle.std.specs.declared.cmp.Ordering.{Ordering}
use Rattle.std.specs.declared.cmp.Ordering.TheVariants.{Less, Equal, Greater}
use Rattle.std.proofs.lemmas.Bool.{cases_Bool}
use Rattle.std.proofs.lemmas.List.{reverse-append, map-append}
use Rattle.std.proofs.lemmas.List.Elements.{All-nil, All-cons, All-head, All-tail}
use Rattle.std.proofs.lemmas.List.Folds.{find-append}
use Rattle.std.proofs.lemmas.List.Sorted.{All-permutation, IsPermutation-sym, IsPermutation-map}
use Rattle.std.proofs.lemmas.Map.{keys-set_value}
use Rattle.std.proofs.lemmas.Map.Keys.{sorted_head, sorted_tail, IsDistinct-head, IsDistinct-tail}
use Rattle.wincode_collect.specs.Collections.{IsSetOf, IsMapOf, IsHashSetOf, IsHashMapOf}

pub option_or_none : {A : Type 0} (x : Option A) → option_or x None ≡ x
option_or_none None = refl
option_or_none (Some x) = refl

module _ {K : Type 0} (cmp : K → K → Ordering) (o : IsTotalOrder cmp) where
  -- equal keys are found by the same test
  pub same_test : (q k : K) → is_eq (cmp q k) ≡ true → is_at (cmp q) ≡ is_at (cmp k)
  same_test q k e i y = is_eq (o.congr q k y ((Equal-is (cmp q k)).0 e) i)

  pub none_below : (q : K) (ks : List K) → AllByRecursion (λ y. cmp q y ≡ Less) ks → find (is_at (cmp q)) ks ≡ None
  none_below q [] a = refl
  none_below q (k ∷ ks) a = rw a.0 (none_below q ks a.1)

  pub below_all : (q k : K) (ks : List K) → cmp q k ≡ Less → AllByRecursion (λ y. cmp k y ≡ Less) ks → AllByRecursion (λ y. cmp q y ≡ Less) ks
  below_all q k [] l a = tt
  below_all q k (x ∷ ks) l a = (o.trans q k x l a.0, below_all q k ks l a.1)

  pub none_from : (q k : K) (ks : List K) → IsStrictlySortedBy cmp (k ∷ ks) → cmp q k ≡ Less → find (is_at (cmp q)) (k ∷ ks) ≡ None
  none_from q k ks s l = none_below q (k ∷ ks) (l, below_all q k ks l (sorted_head cmp k ks s))

  at_head : (k : K) (ks : List K) → find (is_at (cmp k)) (k ∷ ks) ≡ Some k
  at_head k ks = rw (tied_itself o k) refl

  by_order : {X : Type 0} (q k : K) (v : X) (e : K × X) (es : List (K × X)) → IsStrictlySortedBy cmp (keys_of (e ∷ es))
      → find (is_at (cmp q)) (keys_of (insert_entry cmp es k v)) ≡ option_or (find (is_at (cmp q)) (keys_of es)) (find (is_at (cmp q)) (k ∷ []))
      → (r : Ordering) → cmp k e.0 ≡ r → find (is_at (cmp q)) (keys_of (match_ordering r ((k, v) ∷ e ∷ es) ((e.0, v) ∷ es) (e ∷ insert_entry cmp es k v)))
      ≡ option_or (find (is_at (cmp q)) (keys_of (e ∷ es))) (find (is_at (cmp q)) (k ∷ []))
  by_order q k v e es s rest Less p = elim (cases_Bool (is_eq (cmp q k))) [
    | inl b ↦ rw (ap (λ t. find t (e.0 ∷ keys_of es)) (same_test q k b) ∙ none_from k e.0 (keys_of es) s p) (rw b refl)
    | inr b ↦ rw b (sym (option_or_none _))
  ]
  by_order q k v e es s rest Equal p =
      let same : is_eq (cmp q k) ≡ is_eq (cmp q e.0) = ap is_eq (alike_right o k e.0 q p) in
      elim (cases_Bool (is_eq (cmp q e.0))) [ inl b ↦ rw b refl | inr b ↦ rw (same ∙ b) (sym (option_or_none _)) ]
  by_order q k v e es s rest Greater p = elim (cases_Bool (is_eq (cmp q e.0))) [ inl b ↦ rw b refl | inr b ↦ rw b rest ]

  pub insert_firsts : {X : Type 0} (q k : K) (v : X) (es : List (K × X)) → IsStrictlySortedBy cmp (keys_of es)
      → find (is_at (cmp q)) (keys_of (insert_entry cmp es k v)) ≡ option_or (find (is_at (cmp q)) (keys_of es)) (find (is_at (cmp q)) (k ∷ []))
  insert_firsts q k v [] s = refl
  insert_firsts q k v (e ∷ es) s = by_order q k v e es s (insert_firsts q k v es (sorted_tail cmp e.0 (keys_of es) s)) (cmp k e.0) refl

module _ {K X : Type 0} (t : K → Bool) where
  pub find_keys : (es : List (K × X)) → find t (keys_of es) ≡ option_map (λ e. e.0) (find (λ e. t e.0) es)
  find_keys [] = refl
  find_keys (e ∷ es) = elim (cases_Bool (t e.0)) [ inl b ↦ rw b refl | inr b ↦ rw b (find_keys es) ]

  pub find_values : (es : List (K × X)) → lookup t es ≡ option_map (λ e. e.1) (find (λ e. t e.0) es)
  find_values [] = refl
  find_values (e ∷ es) = elim (cases_Bool (t e.0)) [ inl b ↦ rw b refl | inr b ↦ rw b (find_values es) ]

-- one more pair, inserted
pub map_more : {K X : Type 0} (cmp : K → K → Ordering) → IsTotalOrder cmp → (ps es fs : List (K × X)) (k : K) (v : X) → IsMapOf cmp ps es → fs
    ≡ insert_entry cmp es k v → IsStrictlySortedBy cmp (keys_of fs)
    → ((q : K) → lookup (is_at (cmp q)) fs ≡ cond (is_at (cmp k) q) (Some v) (lookup (is_at (cmp q)) es)) → IsMapOf cmp (ps ++ ((k, v) ∷ [])) fs
map_more cmp o ps es fs k v m e s u = record {
  keys = record {
    ordered = s;
    firsts = λ q. ap (λ l. find (is_at (cmp q)) (keys_of l)) e ∙ insert_firsts cmp o q k v es m.keys.ordered
        ∙ ap (λ x. option_or x (find (is_at (cmp q)) (k ∷ []))) (m.keys.firsts q)
        ∙ sym (ap (find (is_at (cmp q))) (map-append (λ d. d.0) ps ((k, v) ∷ [])) ∙ find-append (is_at (cmp q)) (keys_of ps) (k ∷ []));
  };
  lasts = λ q. u q ∙ ap (λ b. cond b (Some v) (lookup (is_at (cmp q)) es)) ((eq_by_cmp_equiv o).symm k q) ∙ ap (cond (is_at (cmp q) k) (Some v)) (m.lasts q)
      ∙ sym (ap (lookup (is_at (cmp q))) (reverse-append ps ((k, v) ∷ [])));
}

module _ {K : Type 0} (cmp : K → K → Ordering) (o : IsTotalOrder cmp) where
  set_by_order : (q k e : K) (es : List K) → IsStrictlySortedBy cmp (e ∷ es) → find (is_at (cmp q)) (insert_key cmp es k)
      ≡ option_or (find (is_at (cmp q)) es) (find (is_at (cmp q)) (k ∷ []))
      → (r : Ordering) → cmp k e ≡ r → find (is_at (cmp q)) (match_ordering r (k ∷ e ∷ es) (e ∷ es) (e ∷ insert_key cmp es k))
      ≡ option_or (find (is_at (cmp q)) (e ∷ es)) (find (is_at (cmp q)) (k ∷ []))
  set_by_order q k e es s rest Less p = elim (cases_Bool (is_eq (cmp q k))) [
    | inl b ↦ rw (ap (λ t. find t (e ∷ es)) (same_test cmp o q k b) ∙ none_from cmp o k e es s p) (rw b refl)
    | inr b ↦ rw b (sym (option_or_none _))
  ]
  set_by_order q k e es s rest Equal p =
      let same : is_eq (cmp q k) ≡ is_eq (cmp q e) = ap is_eq (alike_right o k e q p) in
      elim (cases_Bool (is_eq (cmp q e))) [ inl b ↦ rw b refl | inr b ↦ rw (same ∙ b) (sym (option_or_none _)) ]
  set_by_order q k e es s rest Greater p = elim (cases_Bool (is_eq (cmp q e))) [ inl b ↦ rw b refl | inr b ↦ rw b rest ]

  set_insert : (q k : K) (es : List K) → IsStrictlySortedBy cmp es → find (is_at (cmp q)) (insert_key cmp es k)
      ≡ option_or (find (is_at (cmp q)) es) (find (is_at (cmp q)) (k ∷ []))
  set_insert q k [] s = refl
  set_insert q k (e ∷ es) s = set_by_order q k e es s (set_insert q k es (sorted_tail cmp e es s)) (cmp k e) refl

  pub set_more : (xs ks ls : List K) (k : K) → IsSetOf cmp xs ks → ls ≡ insert_key cmp ks k → IsStrictlySortedBy cmp ls → IsSetOf cmp (xs ++ (k ∷ [])) ls
  set_more xs ks ls k m e s = record {
    ordered = s;
    firsts = λ q. ap (find (is_at (cmp q))) e ∙ set_insert q k ks m.ordered ∙ ap (λ x. option_or x (find (is_at (cmp q)) (k ∷ []))) (m.firsts q)
        ∙ sym (find-append (is_at (cmp q)) xs (k ∷ []));
  }

  pub set_none : (ks : List K) → IsStrictlySortedBy cmp ks → ks ≡ [] → IsSetOf cmp [] ks
  set_none ks s e = record { ordered = s; firsts = λ q. rw e refl }

pub all_of : {A : Type 0} (P : A → Type 0) (xs : List A) → AllByRecursion P xs → All P xs
all_of P [] a = All-nil P
all_of P (x ∷ xs) a = All-cons P x xs a.0 (all_of P xs a.1)

pub all_none : {A : Type 0} (t : A → Bool) (xs : List A) → All (λ y. t y ≡ false) xs → find t xs ≡ None
all_none t [] a = refl
all_none t (x ∷ xs) a = rw (All-head (λ y. t y ≡ false) x xs a) (all_none t xs (All-tail (λ y. t y ≡ false) x xs a))

found_one : {A : Type 0} (t : A → Bool) (r : Option A) (xs : List A) → All (λ y. t y ≡ true → r ≡ Some y) xs → (find t xs ≡ r) ⊎ All (λ y. t y ≡ false) xs
found_one t r [] a = inr (All-nil (λ y. t y ≡ false))
found_one t r (x ∷ xs) a = elim (cases_Bool (t x)) [
  | inl b ↦ inl (rw b (sym (All-head (λ y. t y ≡ true → r ≡ Some y) x xs a b)))
  | inr b ↦ elim (found_one t r xs (All-tail (λ y. t y ≡ true → r ≡ Some y) x xs a))
      [ inl e ↦ inl (rw b e) | inr n ↦ inr (All-cons (λ y. t y ≡ false) x xs b n) ]
]

module _ {K : Type 0} (eq : K → K → Bool) (laws : IsEquivalence eq) where
  pub own_found : (q : K) (xs : List K) → IsDistinct eq xs → All (λ y. eq q y ≡ true → find (eq q) xs ≡ Some y) xs
  own_found q [] d = All-nil (λ y. eq q y ≡ true → None ≡ Some y)
  own_found q (x ∷ xs) d =
      let others = all_of (λ y. eq x y ≡ false) xs (IsDistinct-head eq x xs d) in
      let rest = own_found q xs (IsDistinct-tail eq x xs d) in
      All-cons (λ y. eq q y ≡ true → find (eq q) (x ∷ xs) ≡ Some y) x xs (λ b. rw b refl)
      (λ k e h b. elim (cases_Bool (eq q x)) [ inl c ↦ absurd (true≢false (sym b ∙ laws.congr q x _ c ∙ others k e h)) | inr c ↦ rw c (rest k e h b) ])

  pub perm_find : (q : K) (xs ys : List K) → IsPermutation xs ys → IsDistinct eq xs → find (eq q) ys ≡ find (eq q) xs
  perm_find q xs ys p d = elim (found_one (eq q) (find (eq q) xs) ys
      (All-permutation (λ y. eq q y ≡ true → find (eq q) xs ≡ Some y) xs ys p (own_found q xs d))) [
        | inl e ↦ e
        | inr n ↦ all_none (eq q) ys n ∙ sym (all_none (eq q) xs (All-permutation (λ y. eq q y ≡ false) ys xs (IsPermutation-sym xs ys p) n))
      ]

  pub same_hash_test : (q k : K) → eq q k ≡ true → eq q ≡ eq k
  same_hash_test q k e i y = laws.congr q k y e i

  module _ {X : Type 0} where
    no_key : (t : K → Bool) (es : List (K × X)) (r : Option (K × X)) → find (λ e. t e.0) es ≡ r → None ≡ lookup t es → find t (keys_of es) ≡ None
    no_key t es None f n = find_keys t es ∙ ap (option_map (λ e. e.0)) f
    no_key t es (Some e) f n = absurd (true≢false (ap is_some (sym (n ∙ find_values t es ∙ ap (option_map (λ e. e.1)) f))))

    has_key : (t : K → Bool) (es : List (K × X)) (r : Option (K × X)) (w : X) → find (λ e. t e.0) es ≡ r → Some w ≡ lookup t es → (x : K)
        × (find t (keys_of es) ≡ Some x)
    has_key t es None w f n = absurd (true≢false (ap is_some (n ∙ find_values t es ∙ ap (option_map (λ e. e.1)) f)))
    has_key t es (Some e) w f n = (e.0, find_keys t es ∙ ap (option_map (λ e. e.0)) f)

    puts_firsts : (es fs : List (K × X)) (k : K) (v : X) (old : Option X) → old ≡ lookup (eq k) es
        → MatchOption old (IsPermutation ((k, v) ∷ es) fs) (λ _. fs ≡ set_value (eq k) es v) → IsDistinct eq (keys_of fs)
        → (q : K) → find (eq q) (keys_of fs) ≡ option_or (find (eq q) (keys_of es)) (find (eq q) (k ∷ []))
    puts_firsts es fs k v None o p d q =
        let keys : IsPermutation (k ∷ keys_of es) (keys_of fs) = IsPermutation-map (λ e. e.0) ((k, v) ∷ es) fs p in
        let same : find (eq q) (k ∷ keys_of es) ≡ find (eq q) (keys_of fs) = perm_find q (keys_of fs) (k ∷ keys_of es) (IsPermutation-sym _ _ keys) d in
        sym same ∙ elim (cases_Bool (eq q k)) [
          | inl b ↦ let none : find (eq q) (keys_of es) ≡ None =
              ap (λ t. find t (keys_of es)) (same_hash_test q k b) ∙ no_key (eq k) es (find (λ e. eq k e.0) es) refl o in rw none (rw b refl)
          | inr b ↦ rw b (sym (option_or_none _))
        ]
    puts_firsts es fs k v (Some w) o p d q =
        (ap (λ l. find (eq q) (keys_of l)) p ∙ ap (find (eq q)) (keys-set_value (eq k) es v)) ∙ elim (cases_Bool (eq q k)) [
          | inl b ↦ let has = has_key (eq k) es (find (λ e. eq k e.0) es) w refl o in
              let found : find (eq q) (keys_of es) ≡ Some has.0 = ap (λ t. find t (keys_of es)) (same_hash_test q k b) ∙ has.1 in rw found refl
          | inr b ↦ rw b (sym (option_or_none _))
        ]

    pub hash_more : (ps es fs : List (K × X)) (k : K) (v : X) (old : Option X) → IsHashMapOf eq ps es → old ≡ lookup (eq k) es
        → MatchOption old (IsPermutation ((k, v) ∷ es) fs) (λ _. fs ≡ set_value (eq k) es v) → IsDistinct eq (keys_of fs)
        → ((q : K) → lookup (eq q) fs ≡ cond (eq k q) (Some v) (lookup (eq q) es)) → IsHashMapOf eq (ps ++ ((k, v) ∷ [])) fs
    hash_more ps es fs k v old m o p d u = record {
      keys = record {
        once = d;
        firsts = λ q. puts_firsts es fs k v old o p d q ∙ ap (λ x. option_or x (find (eq q) (k ∷ []))) (m.keys.firsts q)
            ∙ sym (ap (find (eq q)) (map-append (λ e. e.0) ps ((k, v) ∷ [])) ∙ find-append (eq q) (keys_of ps) (k ∷ []));
      };
      lasts = λ q. u q ∙ ap (λ b. cond b (Some v) (lookup (eq q) es)) (laws.symm k q) ∙ ap (cond (eq q k) (Some v)) (m.lasts q)
          ∙ sym (ap (lookup (eq q)) (reverse-append ps ((k, v) ∷ [])));
    }

pub any_found : {K : Type 0} (t : K → Bool) (ks : List K) → list_any t ks ≡ is_some (find t ks)
any_found t [] = refl
any_found t (k ∷ ks) = elim (cases_Bool (t k)) [ inl b ↦ rw b refl | inr b ↦ rw b (any_found t ks) ]

none_some : {A : Type 0} (x : Option A) → is_some x ≡ false → x ≡ None
none_some None e = refl
none_some (Some y) e = absurd (true≢false e)

some_some : {A : Type 0} (x : Option A) → is_some x ≡ true → (y : A) × (x ≡ Some y)
some_some None e = absurd (true≢false (sym e))
some_some (Some y) e = (y, refl)

unless : (b : Bool) → true ≡ not b → b ≡ false
unless true e = absurd (true≢false e)
unless false e = refl

when : (b : Bool) → false ≡ not b → b ≡ true
when true e = refl
when false e = absurd (true≢false (sym e))

module _ {K : Type 0} (eq : K → K → Bool) (laws : IsEquivalence eq) where
  set_puts : (ks ls : List K) (k : K) (added : Bool) → added ≡ not (list_any (eq k) ks) → MatchBool added (IsPermutation (k ∷ ks) ls) (ls ≡ ks)
      → IsDistinct eq ls → (q : K) → find (eq q) ls ≡ option_or (find (eq q) ks) (find (eq q) (k ∷ []))
  set_puts ks ls k true a p d q =
      sym (perm_find eq laws q ls (k ∷ ks) (IsPermutation-sym _ _ p) d) ∙ elim (cases_Bool (eq q k)) [
        | inl b ↦ let none : find (eq q) ks ≡ None = ap (λ t. find t ks) (same_hash_test eq laws q k b)
            ∙ none_some (find (eq k) ks) (sym (any_found (eq k) ks) ∙ unless (list_any (eq k) ks) a) in rw none (rw b refl)
        | inr b ↦ rw b (sym (option_or_none _))
      ]
  set_puts ks ls k false a p d q =
      ap (find (eq q)) p ∙ elim (cases_Bool (eq q k)) [
        | inl b ↦ let has = some_some (find (eq k) ks) (sym (any_found (eq k) ks) ∙ when (list_any (eq k) ks) a) in
            let found : find (eq q) ks ≡ Some has.0 = ap (λ t. find t ks) (same_hash_test eq laws q k b) ∙ has.1 in rw found refl
        | inr b ↦ rw b (sym (option_or_none _))
      ]

  pub hash_set_more : (xs ks ls : List K) (k : K) (added : Bool) → added ≡ not (list_any (eq k) ks) → MatchBool added (IsPermutation (k ∷ ks) ls) (ls ≡ ks)
      → IsDistinct eq ls → IsHashSetOf eq xs ks → IsHashSetOf eq (xs ++ (k ∷ [])) ls
  hash_set_more xs ks ls k added a p d m = record {
    once = d;
    firsts = λ q. set_puts ks ls k added a p d q ∙ ap (λ x. option_or x (find (eq q) (k ∷ []))) (m.firsts q) ∙ sym (find-append (eq q) xs (k ∷ []));
  }

  pub hash_set_none : (ks : List K) → IsDistinct eq ks → ks ≡ [] → IsHashSetOf eq [] ks
  hash_set_none ks d e = record { once = d; firsts = λ q. rw e refl }

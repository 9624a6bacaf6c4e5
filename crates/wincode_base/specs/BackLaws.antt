-- What is written of a map, a set or a heap reads back as it.
use Rattle.std.proofs.Common.{◌≡◌, ◌∙◌, sym, ap, subst, ℕ, ◌+◌, ◌*◌, ◌<◌, ◌≤◌, List, [], ◌∷◌, length, refl, arith, None, Bool, true, false, cond, map, inl, inr}
use Rattle.std.specs.Prelude.{reverse}
use Rattle.std.specs.Option.{option_map, IfSome}
use Rattle.std.specs.List.{find, count_by, IsDistinct, AllByRecursion}
use Rattle.std.specs.List.Sorted.{IsStrictlySortedBy, IsPermutation}
use Rattle.std.specs.Map.{keys_of, lookup}
use Rattle.std.specs.BTreeMap.{BTreeMap, IsOrdered}
use Rattle.std.specs.BTreeSet.{BTreeSet}
use Rattle.std.specs.HashMap.{HashMap, IsUnique}
use Rattle.std.specs.HashSet.{HashSet}
use Rattle.std.specs.Cmp.{IsTotalOrder, IsEquivalence, eq_by_cmp_equiv}
use Rattle.std.specs.Ordering.{eq_by_cmp}
use Rattle.std.specs.declared.cmp.Ordering.{Ordering}
use Rattle.std.proofs.lemmas.Bool.{cases_Bool}
use Rattle.std.proofs.lemmas.List.{length-map, map-id}
use Rattle.std.proofs.lemmas.List.Sums.{sum_by-cons}
use Rattle.std.proofs.lemmas.List.Sorted.{IsPermutation-map, IsPermutation-sym, IsPermutation-trans, IsPermutation-reverse, length_permutation}
use Rattle.std.proofs.lemmas.Nat.{mul-le}
use Rattle.std.proofs.lemmas.Map.Keys.{IsDistinct-from_sorted, IsDistinct-head, IsDistinct-tail}
use Rattle.std.proofs.lemmas.Map.Entries.{length-keys_of}
use Rattle.wincode_io.specs.Joins.{Each, Joined}
use Rattle.wincode_collect.specs.Collections.{IsSetOf, IsMapOf, IsHashSetOf, IsHashMapOf}
use Rattle.wincode_collect.specs.CollectionLaws.{find_keys, find_values, perm_find, same_hash_test}
use Rattle.wincode_collect.specs.Seen.{sees, hash_set_sees, hash_map_sees, heap_sees, Made}
use Rattle.wincode_collect.specs.SeenLaws.{same_bag}
use Rattle.wincode_collect.specs.OwnLaws.{keys_fewer, own_map, map_shorter, once_too, perm_lookup, count_all}
use Rattle.wincode_base.specs.declared.sizes.ItemSize.{ItemSize}
use Rattle.wincode_base.specs.Grammar.{ReadGrammar, WriteGrammar, ReadsBack}
use Rattle.wincode_base.specs.Lengths.{Scheme, SchemeLaws, HasEncoding, bincode, preallocation_limit}
use Rattle.wincode_base.specs.LengthLaws.{bincode_laws}
use Rattle.wincode_base.specs.Lists.{list_read, list_write_of, list_write}
use Rattle.wincode_base.specs.ListLaws.{list_reads_back}
use Rattle.wincode_base.specs.Pairs.{pair_read, pair_write}
use Rattle.wincode_base.specs.PairLaws.{pair_reads_back}
use Rattle.wincode_base.specs.Keys.{IsDecidable}
use Rattle.wincode_base.specs.Gathered.{gathered_read, scattered_write_of, scattered_write}
use Rattle.wincode_base.specs.ItemSizes.{item_size, pair_size}
use Rattle.wincode_base.specs.declared.sizes.ItemSize.{ItemSize}
use Rattle.wincode_base.specs.GatheredLaws.{map_each, set_each, each_found, each_of_see, each_see, each_reverse, IfSome-map, IfSome-unmap}
use Rattle.wincode_base.specs.GatheredLaws.{IfSome-first, IfSome-second, IfSome-both}
use Rattle.wincode_base.specs.ScatteredLaws.{each_permutation, order_model}

admits_less : (limit p m n : ℕ) → m ≤ n → (bincode limit).admits n p → (bincode limit).admits m p
admits_less limit p m n l h = let k : m * p ≤ n * p = mul-le m p n p l (omega arith) in (omega (arith, h.0), omega (arith, k, h.1))

fits_permutation : {V : Type 0} (s : Scheme) (w : WriteGrammar V) (vs us : List V) → IsPermutation vs us → (list_write s 24 w).fits vs
    → (list_write s 24 w).fits us
fits_permutation s w vs us p f =
    let l = sym (length_permutation vs us p) in (subst (HasEncoding s) l f.0, subst (λ n. s.admits n w.prealloc) l f.1, each_permutation w.fits vs us p f.2)

-- ---- a collection that is written in an order, and one that is written in any

module _ {X E V W U : Type 0} (s : Scheme) (scheme : SchemeLaws s) (size : ItemSize) (items : X → List E) (sound : X → Type 0) (P : E → Type 0) (ws : E → W)
    (w : WriteGrammar W) (rs : E → V) (r : ReadGrammar V) (law : ReadsBack P ws w rs r)
    (written_size : ItemSize) (made : List E → List E → Type 0) (show : List E → U)
    (admitted : (ds : List E) (x : X) (p : ℕ) → Made made show ds (show (items x)) → s.admits (length ds) p → s.admits (length (items x)) p)
    (holds : (ds : List E) (x : X) (b : List ℕ) → Joined r.reads (map rs ds) b → Made made show ds (show (items x))
    → Each w.fits (map ws (items x))) where
  lists : ReadsBack (λ es. Each P es) (λ es. map ws es) (list_write s 24 w) (λ es. map rs es) (list_read s 24 r)
  lists = list_reads_back s scheme 24 (λ es. es) P ws w rs r law

  all_within : (b : List ℕ) (x : X) → (gathered_read rs (Made made show) s size r).reads b (show (items x)) → (list_write s 24 w).fits (map ws (items x))
  all_within b x h =
      let n = length (map ws (items x)) in
      let admits : s.admits n r.prealloc = subst (λ k. s.admits k r.prealloc) (sym (length-map (items x) ws))
      (admitted h.0 x r.prealloc h.2 (subst (λ k. s.admits k r.prealloc) (length-map h.0 rs) h.1.0)) in
      (scheme.admitted n r.prealloc admits, subst (λ k. s.admits n k) (sym law.same_prealloc) admits, holds h.0 x h.1.1.1 h.1.1.3 h.2)

  pub ordered_reads_back : ((x : X) → sound x → made (items x) (items x))
      → ReadsBack (λ x. sound x × Each P (items x)) (λ x. map ws (items x)) (list_write_of s 24 written_size w) (λ x. show (items x))
      (gathered_read rs (Made made show) s size r)
  ordered_reads_back builtin = record {
    back = λ x b h j f. (items x, lists.back (items x) b h.1 j f, (items x, builtin x h.0, refl));
    within = all_within;
    same_prealloc = refl;
    same_meta = refl;
  }

  pub scattered_reads_back : ((x : X) (es : List E) → sound x → IsPermutation (items x) es → made es (items x))
      → ReadsBack (λ x. sound x × Each P (items x)) (λ x. map ws (items x)) (scattered_write_of s written_size w) (λ x. show (items x))
      (gathered_read rs (Made made show) s size r)
  scattered_reads_back builtin = record {
    back = λ x b h j f.
        let o = order_model ws (items x) j.0 j.1 in
        let t = subst (λ us. (list_write s 24 w).writes b us) o.2 j.2 in
        let g = fits_permutation s w (map ws (items x)) (map ws o.0) (IsPermutation-map ws (items x) o.0 o.1) f in
        (o.0, lists.back o.0 b (each_permutation P (items x) o.0 o.1 h.1) t g, (items x, builtin x o.0 h.0 o.1, refl));
    within = all_within;
    same_prealloc = refl;
    same_meta = refl;
  }

-- ---- what a list that was read says of each value of which the same is seen

key_within : {K A A' : Type 0} (p : K → Type 0) (wf : K → A') (w : WriteGrammar A') (rf : K → A) (r : ReadGrammar A) → ReadsBack p wf w rf r
    → (vs : List A) (b : List ℕ) → Joined r.reads vs b
    → Each (λ v. (k : K) → v ≡ rf k → w.fits (wf k)) vs
key_within p wf w rf r a [] b j = tt
key_within p wf w rf r a (v ∷ vs) b j = (λ k s. a.within j.0 k (subst (λ u. r.reads j.0 u) s j.2), key_within p wf w rf r a vs j.1 j.3)

pair_within : {K X A B A' B' : Type 0} (p : K → Type 0) (q : X → Type 0) (wf : K → A') (w : WriteGrammar A') (rf : K → A) (r : ReadGrammar A) (wg : X → B')
    (x : WriteGrammar B') (rg : X → B) (t : ReadGrammar B)
    → ReadsBack p wf w rf r → ReadsBack q wg x rg t → (vs : List (A × B)) (b : List ℕ) → Joined (pair_read r t).reads vs b
    → Each (λ v. ((k : K) → v.0 ≡ rf k → w.fits (wf k)) × ((y : X) → v.1 ≡ rg y → x.fits (wg y))) vs
pair_within p q wf w rf r wg x rg t a c [] b j = tt
pair_within p q wf w rf r wg x rg t a c (v ∷ vs) b j = (
  ((λ k s. a.within j.2.0 k (subst (λ u. r.reads j.2.0 u) s j.2.2)), (λ y s. c.within j.2.1 y (subst (λ u. t.reads j.2.1 u) s j.2.3))),
  pair_within p q wf w rf r wg x rg t a c vs j.1 j.3,
)

each_zip : {E V : Type 0} (f : E → V) (P : V → Type 0) (Q : E → Type 0) → ((e : E) → P (f e) → Q e) → (es : List E) → Each P (map f es) → Each Q es
each_zip f P Q h [] a = tt
each_zip f P Q h (e ∷ es) a = (h e a.0, each_zip f P Q h es a.1)

-- ---- ordered maps and sets

pub map_reads_back : {K X A B A' B' : Type 0} (size : ItemSize) (cmp : K → K → Ordering) → IsTotalOrder cmp
    → (p : K → Type 0) (q : X → Type 0) (wf : K → A') (w : WriteGrammar A') (rf : K → A) (r : ReadGrammar A) (wg : X → B') (x : WriteGrammar B') (rg : X → B)
    (t : ReadGrammar B)
    → ReadsBack p wf w rf r → ReadsBack q wg x rg t
    → ReadsBack {X = BTreeMap K X} (λ m. IsOrdered cmp m × Each (λ e. p e.0 × q e.1) m.entries) (λ m. map (sees wf wg) m.entries)
    (list_write_of (bincode preallocation_limit) 24 (pair_size w.meta x.meta) (pair_write w x))
    (λ m. map (sees rf rg) m.entries) (gathered_read (sees rf rg) (Made (IsMapOf cmp) (map (sees rf rg))) (bincode preallocation_limit) size (pair_read r t))
map_reads_back {K = K} {X = X} {A = A} {B = B} size cmp o p q wf w rf r wg x rg t a c =
    ordered_reads_back {X = BTreeMap K X} (bincode preallocation_limit) (bincode_laws preallocation_limit) size (λ m. m.entries) (IsOrdered cmp)
    (λ e. p e.0 × q e.1) (sees wf wg) (pair_write w x) (sees rf rg) (pair_read r t) (pair_reads_back a c)
    (pair_size w.meta x.meta) (IsMapOf cmp) (map (sees rf rg))
    (λ ds m n h. admits_less preallocation_limit n _ _ (let l = map_shorter cmp o ds h.0 h.1 in let i = length-map m.entries (sees rf rg) in let j =
    length-map h.0 (sees rf rg) in let k = ap length h.2 in omega (arith, l, i, j, k)))
    (λ ds m b j h.
    let P : A × B → Type 0 = λ v. ((k : K) → v.0 ≡ rf k → w.fits (wf k)) × ((y : X) → v.1 ≡ rg y → x.fits (wg y)) in
    let each = map_each cmp o rf rg (λ v. (k : K) → v ≡ rf k → w.fits (wf k)) (λ v. (y : X) → v ≡ rg y → x.fits (wg y)) ds h.0 h.1
    (pair_within p q wf w rf r wg x rg t a c (map (sees rf rg) ds) b j) in
    each_see (sees wf wg) (pair_write w x).fits m.entries (each_zip (sees rf rg) P (λ e. w.fits (wf e.0) × x.fits (wg e.1))
    (λ e u. (u.0 e.0 refl, u.1 e.1 refl)) m.entries (subst (Each P) (sym h.2) each)))
    (λ m s. own_map cmp o m.entries s)

pub set_reads_back : {K A A' : Type 0} (size : ItemSize) (cmp : K → K → Ordering) → IsTotalOrder cmp
    → (p : K → Type 0) (wf : K → A') (w : WriteGrammar A') (rf : K → A) (r : ReadGrammar A) → ReadsBack p wf w rf r
    → ReadsBack {X = BTreeSet K} (λ m. IsStrictlySortedBy cmp m.keys × Each p m.keys) (λ m. map wf m.keys) (list_write (bincode preallocation_limit) 24 w)
    (λ m. map rf m.keys) (gathered_read rf (Made (IsSetOf cmp) (map rf)) (bincode preallocation_limit) size r)
set_reads_back {K = K} {A = A} size cmp o p wf w rf r a =
    let P : A → Type 0 = λ v. (k : K) → v ≡ rf k → w.fits (wf k) in
    ordered_reads_back {X = BTreeSet K} (bincode preallocation_limit) (bincode_laws preallocation_limit) size (λ m. m.keys)
    (λ m. IsStrictlySortedBy cmp m.keys) p wf w rf r a (item_size w.meta) (IsSetOf cmp) (map rf)
    (λ ds m n h. admits_less preallocation_limit n _ _ (let l =
    keys_fewer (eq_by_cmp cmp) (eq_by_cmp_equiv o) ds h.0 (IsDistinct-from_sorted cmp _ h.1.ordered) h.1.firsts in let i = length-map m.keys rf in let j =
    length-map h.0 rf in let k = ap length h.2 in omega (arith, l, i, j, k)))
    (λ ds m b j h.
    let each = set_each cmp o rf P ds h.0 h.1 (key_within p wf w rf r a (map rf ds) b j) in
    each_see wf w.fits m.keys (each_zip rf P (λ k. w.fits (wf k)) (λ k u. u k refl) m.keys (subst (Each P) (sym h.2) each)))
    (λ m s. record { ordered = s; firsts = λ q. refl })

-- ---- hashed maps

module _ {E K : Type 0} (eq : K → K → Bool) (laws : IsEquivalence eq) (key : E → K) (P : E → Type 0) where
  -- what holds of all that is found in a list without equal keys holds of each
  each_once : (es : List E) → IsDistinct eq (map key es) → ((q : K) → IfSome (find (λ e. eq q (key e)) es) P) → Each P es
  each_once [] d h = tt
  each_once (e ∷ es) d h =
      let builtin : IfSome (find (λ y. eq (key e) (key y)) (e ∷ es)) P = h (key e) in (
        rw (laws.refl (key e)) at builtin,
        each_once es (IsDistinct-tail eq (key e) (map key es) d) (λ q.
            let other : IfSome (find (λ y. eq q (key y)) (e ∷ es)) P = h q in
            elim (cases_Bool (eq q (key e))) [
              | inl b ↦ let none = none_keyed q e es (IsDistinct-head eq (key e) (map key es) d) b in rw none tt
              | inr b ↦ rw b at other
            ]),
      ) where
        none_all : (q : K) (ys : List E) → AllByRecursion (λ y. eq q y ≡ false) (map key ys) → find (λ y. eq q (key y)) ys ≡ None
        none_all q [] a = refl
        none_all q (y ∷ ys) a = rw a.0 (none_all q ys a.1)

        none_keyed : (q : K) (e : E) (ys : List E) → AllByRecursion (λ y. eq (key e) y ≡ false) (map key ys) → eq q (key e) ≡ true
            → find (λ y. eq q (key y)) ys ≡ None
        none_keyed q e ys a b = ap (λ t. find (λ y. t (key y)) ys) (same_hash_test eq laws q (key e) b) ∙ none_all (key e) ys a

pub hash_map_reads_back : {K X A B A' B' : Type 0} (size : ItemSize) (eq : K → K → Bool) → IsEquivalence eq
    → (p : K → Type 0) (q : X → Type 0) (wf : K → A') (w : WriteGrammar A') (rf : K → A) (r : ReadGrammar A) (wg : X → B') (x : WriteGrammar B') (rg : X → B)
    (t : ReadGrammar B)
    → ReadsBack p wf w rf r → ReadsBack q wg x rg t → {S : Type 0}
    → ReadsBack {X = HashMap K X S} (λ m. IsUnique eq m × Each (λ e. p e.0 × q e.1) m.entries) (λ m. map (sees wf wg) m.entries)
    (scattered_write_of (bincode preallocation_limit) (pair_size w.meta x.meta) (pair_write w x))
    (λ m. hash_map_sees eq rf rg m.entries) (gathered_read (sees rf rg) (Made (IsHashMapOf eq) (hash_map_sees eq rf rg)) (bincode preallocation_limit) size
    (pair_read r t))
hash_map_reads_back {K = K} {X = X} {A = A} {B = B} size eq laws p q wf w rf r wg x rg t a c {S} =
    scattered_reads_back {X = HashMap K X S} (bincode preallocation_limit) (bincode_laws preallocation_limit) size (λ m. m.entries) (IsUnique eq)
    (λ e. p e.0 × q e.1) (sees wf wg) (pair_write w x) (sees rf rg) (pair_read r t) (pair_reads_back a c)
    (pair_size w.meta x.meta) (IsHashMapOf eq) (hash_map_sees eq rf rg)
    (λ ds m n h. admits_less preallocation_limit n _ _ (let l = keys_fewer eq laws (keys_of ds) (keys_of h.0) h.1.keys.once h.1.keys.firsts in let i =
    length-keys_of ds in let j = length-keys_of h.0 in let k = ap (λ v. v.2) h.2 in omega (arith, l, i, j, k)))
    (λ ds m b j h.
    let firsts : (y : K) → option_map rf (find (eq y) (keys_of m.entries)) ≡ option_map rf (find (eq y) (keys_of h.0)) = λ y. ap (λ v. v.0 y) h.2 in
    let lasts : (y : K) → option_map rg (lookup (eq y) m.entries) ≡ option_map rg (lookup (eq y) h.0) = λ y. ap (λ v. v.1 y) h.2 in
    let many : length (keys_of m.entries) ≡ length (keys_of h.0) = length-keys_of m.entries ∙ ap (λ v. v.2) h.2 ∙ sym (length-keys_of h.0) in
    let once = once_too eq laws rf (keys_of m.entries) (keys_of h.0) h.1.keys.once many firsts in
    let P : A → Type 0 = λ v. (k : K) → v ≡ rf k → w.fits (wf k) in
    let Q : B → Type 0 = λ v. (y : X) → v ≡ rg y → x.fits (wg y) in
    let each = each_of_see (sees rf rg) (λ v. P v.0 × Q v.1) ds (pair_within p q wf w rf r wg x rg t a c (map (sees rf rg) ds) b j) in
    let all = each_once eq laws (λ e. e.0) (λ e. P (rf e.0) × Q (rg e.1)) m.entries once (λ y.
    let test = eq y in
    let first = each_found (λ e. P (rf e.0) × Q (rg e.1)) (λ e. test e.0) ds each in
    let last = each_found (λ e. P (rf e.0) × Q (rg e.1)) (λ e. test e.0) (reverse ds) (each_reverse (λ e. P (rf e.0) × Q (rg e.1)) ds each) in
    let k = IfSome-map rf P _ (IfSome-map (λ e. e.0) (λ u. P (rf u)) (find (λ e. test e.0) ds) (IfSome-first (λ e. P (rf e.0)) (λ e. Q (rg e.1)) _ first)) in
    let v = IfSome-map rg Q _ (IfSome-map (λ e. e.1) (λ u. Q (rg u)) (find (λ e. test e.0) (reverse ds))
    (IfSome-second (λ e. P (rf e.0)) (λ e. Q (rg e.1)) _ last)) in
    let keys : option_map rf (option_map (λ e. e.0) (find (λ e. test e.0) ds)) ≡ option_map rf (option_map (λ e. e.0) (find (λ e. test e.0) m.entries)) =
    ap (option_map rf) (sym (find_keys test ds) ∙ sym (h.1.keys.firsts y)) ∙ sym (firsts y) ∙ ap (option_map rf) (find_keys test m.entries) in
    let values : option_map rg (option_map (λ e. e.1) (find (λ e. test e.0) (reverse ds)))
    ≡ option_map rg (option_map (λ e. e.1) (find (λ e. test e.0) m.entries)) =
    ap (option_map rg) (sym (find_values test (reverse ds)) ∙ sym (h.1.lasts y)) ∙ sym (lasts y) ∙ ap (option_map rg) (find_values test m.entries) in
    IfSome-both (λ e. P (rf e.0)) (λ e. Q (rg e.1)) (find (λ e. test e.0) m.entries)
    (IfSome-unmap (λ e. e.0) (λ u. P (rf u)) (find (λ e. test e.0) m.entries) (IfSome-unmap rf P _ (subst (λ z. IfSome z P) keys k)))
    (IfSome-unmap (λ e. e.1) (λ u. Q (rg u)) (find (λ e. test e.0) m.entries) (IfSome-unmap rg Q _ (subst (λ z. IfSome z Q) values v)))) in
    each_see (sees wf wg) (pair_write w x).fits m.entries (each_zip (λ e. e) (λ e. P (rf e.0) × Q (rg e.1)) (λ e. w.fits (wf e.0) × x.fits (wg e.1))
    (λ e u. (u.0 e.0 refl, u.1 e.1 refl)) m.entries (subst (Each (λ e. P (rf e.0) × Q (rg e.1))) (sym (map-id m.entries)) all)))
    (λ m es d z. record {
      keys = record { once = d; firsts = λ y. sym (perm_find eq laws y (keys_of m.entries) (keys_of es) (IsPermutation-map (λ e. e.0) m.entries es z) d) };
      lasts = λ y. sym (perm_lookup eq laws y m.entries (reverse es) (IsPermutation-trans m.entries es (reverse es) z (IsPermutation-reverse es)) d);
    })

pub hash_set_reads_back : {K A A' : Type 0} (size : ItemSize) (eq : K → K → Bool) → IsEquivalence eq
    → (p : K → Type 0) (wf : K → A') (w : WriteGrammar A') (rf : K → A) (r : ReadGrammar A) → ReadsBack p wf w rf r → {S : Type 0}
    → ReadsBack {X = HashSet K S} (λ m. IsDistinct eq m.keys × Each p m.keys) (λ m. map wf m.keys) (scattered_write (bincode preallocation_limit) w)
    (λ m. hash_set_sees eq rf m.keys) (gathered_read rf (Made (IsHashSetOf eq) (hash_set_sees eq rf)) (bincode preallocation_limit) size r)
hash_set_reads_back {K = K} {A = A} size eq laws p wf w rf r a {S} =
    let P : A → Type 0 = λ v. (k : K) → v ≡ rf k → w.fits (wf k) in
    scattered_reads_back {X = HashSet K S} (bincode preallocation_limit) (bincode_laws preallocation_limit) size (λ m. m.keys) (λ m. IsDistinct eq m.keys)
    p wf w rf r a (item_size w.meta) (IsHashSetOf eq) (hash_set_sees eq rf)
    (λ ds m n h. admits_less preallocation_limit n _ _ (let l = keys_fewer eq laws ds h.0 h.1.once h.1.firsts in let k = ap (λ v. v.1) h.2 in
    omega (arith, l, k)))
    (λ ds m b j h.
    let firsts : (y : K) → option_map rf (find (eq y) m.keys) ≡ option_map rf (find (eq y) h.0) = λ y. ap (λ v. v.0 y) h.2 in
    let once = once_too eq laws rf m.keys h.0 h.1.once (ap (λ v. v.1) h.2) firsts in
    let each = each_of_see rf P ds (key_within p wf w rf r a (map rf ds) b j) in
    let all = each_once eq laws (λ k. k) (λ k. P (rf k)) m.keys (subst (IsDistinct eq) (sym (map-id m.keys)) once) (λ y.
    let k = IfSome-map rf P (find (eq y) ds) (each_found (λ k. P (rf k)) (eq y) ds each) in
    let keys : option_map rf (find (eq y) ds) ≡ option_map rf (find (eq y) m.keys) = ap (option_map rf) (sym (h.1.firsts y)) ∙ sym (firsts y) in
    IfSome-unmap rf P (find (eq y) m.keys) (subst (λ z. IfSome z P) keys k)) in
    each_see wf w.fits m.keys (each_zip (λ k. k) (λ k. P (rf k)) (λ k. w.fits (wf k)) (λ k u. u k refl) m.keys
    (subst (Each (λ k. P (rf k))) (sym (map-id m.keys)) all)))
    (λ m es d z. record { once = d; firsts = λ y. sym (perm_find eq laws y m.keys es z d) })

-- ---- heaps

module _ {A : Type 0} (P : A → Type 0) where
  count_cons : (t : A → Bool) (x : A) (xs : List A) → count_by t (x ∷ xs) ≡ cond (t x) 1 0 + count_by t xs
  count_cons t x xs = sum_by-cons (λ y. cond (t y) 1 0) x xs

  counted : (t : A → Bool) (xs : List A) → Each P xs → 0 < count_by t xs → (x : A) × (t x ≡ true) × P x
  counted t [] e l = absurd (omega arith)
  counted t (x ∷ xs) e l = elim (cases_Bool (t x)) [
    | inl b ↦ (x, b, e.0)
    | inr b ↦ let c : count_by t (x ∷ xs) ≡ count_by t xs = count_cons t x xs ∙ ap (λ k. cond k 1 0 + count_by t xs) b ∙ omega arith in
        counted t xs e.1 (omega (arith, l, c))
  ]

  -- what holds of each of a bag holds of each of a list whose items are in the bag
  each_counted : IsDecidable A → (xs ys : List A) → Each P xs → ((t : A → Bool) → count_by t ys ≤ count_by t xs) → Each P ys
  each_counted told xs [] e h = tt
  each_counted told xs (y ∷ ys) e h =
      let same : A → Bool = λ z. (told y z).0 in
      let one : count_by same (y ∷ ys) ≡ 1 + count_by same ys = count_cons same y ys ∙ ap (λ k. cond k 1 0 + count_by same ys) ((told y y).1.1 refl) in
      let l = h same in
      let x = counted same xs e (omega (arith, one, l)) in
      (subst P (sym ((told y x.0).1.0 x.1)) x.2, each_counted told xs ys e (λ t. let c = count_cons t y ys in let k = h t in omega (arith, c, k)))

pub heap_reads_back : {H K A A' : Type 0} (size : ItemSize) (s : Scheme) → SchemeLaws s → (items : H → List K) → IsDecidable A
    → (p : K → Type 0) (wf : K → A') (w : WriteGrammar A') (rf : K → A) (r : ReadGrammar A) → ReadsBack p wf w rf r
    → ReadsBack {X = H} (λ h. Each p (items h)) (λ h. map wf (items h)) (scattered_write s w) (λ h. heap_sees rf (items h))
    (gathered_read rf (Made IsPermutation (heap_sees rf)) s size r)
heap_reads_back {H = H} {K = K} {A = A} size s scheme items told p wf w rf r a =
    let P : A → Type 0 = λ v. (k : K) → v ≡ rf k → w.fits (wf k) in
    let law = scattered_reads_back {X = H} s scheme size items (λ h. Unit {0}) p wf w rf r a (item_size w.meta) IsPermutation (heap_sees rf)
    (λ ds h n m a.
    let e = ap (λ v. v (λ x. true)) m.2 in let i = count_all (map rf (items h)) in let j = count_all (map rf m.0) in let k = length-map (items h) rf in let l =
    length-map m.0 rf in let o = length_permutation ds m.0 m.1 in
    subst (λ k. s.admits k n) (omega (arith, e, i, j, k, l, o)) a)
    (λ ds h b j m.
    let each = key_within p wf w rf r a (map rf ds) b j in
    let bag : (t : A → Bool) → count_by t (map rf (items h)) ≡ count_by t (map rf ds) = λ t. ap (λ v. v t) (m.2 ∙ same_bag rf ds m.0 m.1) in
    let all = each_counted P told (map rf ds) (map rf (items h)) each (λ t. let e = bag t in omega (arith, e)) in
    each_see wf w.fits (items h) (each_zip rf P (λ k. w.fits (wf k)) (λ k u. u k refl) (items h) all))
    (λ h es u z. IsPermutation-sym (items h) es z) in
    record { back = λ h b e j f. law.back h b (tt, e) j f; within = law.within; same_prealloc = refl; same_meta = refl }

-- The laws of reading what is made of a list.
use Rattle.std.proofs.Common.{◌≡◌, sym, subst, List, [], ◌∷◌, ℕ, arith, Some, None, true, false, map, inl, inr, ◌∙◌}
use Rattle.std.specs.Prelude.{Bool, Option, reverse}
use Rattle.std.specs.Option.{option_map, IfSome}
use Rattle.std.specs.List.{find}
use Rattle.std.specs.List.Sorted.{IsStrictlySortedBy, IsPermutation}
use Rattle.std.specs.BTreeMap.{is_at}
use Rattle.std.specs.Cmp.{IsTotalOrder, IsEquivalence, tied_itself}
use Rattle.std.specs.Ordering.{is_eq}
use Rattle.std.specs.declared.cmp.Ordering.{Ordering}
use Rattle.std.proofs.lemmas.Bool.{cases_Bool}
use Rattle.std.proofs.lemmas.List.{reverse-append, map-id}
use Rattle.std.proofs.lemmas.Map.Keys.{sorted_tail}
use Rattle.wincode_io.specs.Joins.{Each}
use Rattle.wincode_io.specs.JoinLaws.{each_append}
use Rattle.wincode_io.specs.Readers.{ReaderState}
use Rattle.wincode_collect.specs.Collections.{IsSetOf, IsMapOf, IsHashSetOf, IsHashMapOf}
use Rattle.wincode_collect.specs.CollectionLaws.{find_keys, find_values}
use Rattle.wincode_collect.specs.Seen.{sees, hash_set_sees, hash_map_sees, heap_sees, Made}
use Rattle.wincode_collect.specs.SeenLaws.{past_at, map_one, set_one, hash_set_one, hash_map_one, bag_one}
use Rattle.wincode_base.specs.Grammar.{ReadGrammar, ReadLaws}
use Rattle.wincode_base.specs.Lengths.{Scheme, SchemeLaws}
use Rattle.wincode_base.specs.Lists.{reads_list, list_read_of}
use Rattle.wincode_base.specs.ListLaws.{list_read_laws}
use Rattle.wincode_base.specs.Pairs.{pair_read}
use Rattle.wincode_base.specs.PairLaws.{pair_read_laws}
use Rattle.wincode_base.specs.Outcomes.{Gives, SchemaReadRefused}
use Rattle.wincode_base.specs.Sequences.{gives_map, refuses_map}
use Rattle.wincode_base.specs.Gathered.{gathered_read}
use Rattle.wincode_base.specs.declared.error.ReadError.{ReadError}
use Rattle.wincode_base.specs.declared.sizes.ItemSize.{ItemSize}

-- what is made of a list by a relation that tells only what is seen of it
pub gathered_laws : {D V W : Type 0} (see : D → V) (makes : List D → W → Type 0)
    → ((ds es : List D) (v w : W) → map see ds ≡ map see es → makes ds v → makes es w → v ≡ w)
    → (p : V → Type 0) (q : W → Type 0) → ((ds : List D) (w : W) → Each p (map see ds) → makes ds w → q w)
    → (s : Scheme) → SchemeLaws s → (size : ItemSize) → (g : ReadGrammar V) → ReadLaws p g → ReadLaws q (gathered_read see makes s size g)
gathered_laws see makes one p q kept s scheme size g laws =
    let l = list_read_laws s scheme 1 (omega arith) p g laws in
    record {
      one_front = λ a b x y v w r t e. let h = l.one_front a b x y (map see r.0) (map see t.0) r.1 t.1 e in (h.0, one r.0 t.0 v w h.1 r.2 t.2);
      reads_valid = λ b v r. kept r.0 v (l.reads_valid b (map see r.0) r.1) r.2;
      statics = tt;
      prealloc = omega arith;
    }

-- what holds of each of a list holds of what is found in it
pub each_found : {D : Type 0} (P : D → Type 0) (t : D → Bool) (ds : List D) → Each P ds → IfSome (find t ds) P
each_found P t [] a = tt
each_found P t (d ∷ ds) a = elim (cases_Bool (t d)) [ inl b ↦ rw b a.0 | inr b ↦ rw b (each_found P t ds a.1) ]

pub each_reverse : {A : Type 0} (P : A → Type 0) (xs : List A) → Each P xs → Each P (reverse xs)
each_reverse P [] a = tt
each_reverse P (x ∷ xs) a = subst (Each P) (sym (reverse-append (x ∷ []) xs)) (each_append P (reverse xs) (x ∷ []) (each_reverse P xs a.1) (a.0, tt))

pub each_see : {A B : Type 0} (f : A → B) (P : B → Type 0) (xs : List A) → Each (λ x. P (f x)) xs → Each P (map f xs)
each_see f P [] a = tt
each_see f P (x ∷ xs) a = (a.0, each_see f P xs a.1)

pub each_of_see : {A B : Type 0} (f : A → B) (P : B → Type 0) (xs : List A) → Each P (map f xs) → Each (λ x. P (f x)) xs
each_of_see f P [] a = tt
each_of_see f P (x ∷ xs) a = (a.0, each_of_see f P xs a.1)

pub IfSome-map : {A B : Type 0} (f : A → B) (P : B → Type 0) (x : Option A) → IfSome x (λ d. P (f d)) → IfSome (option_map f x) P
IfSome-map f P None a = a
IfSome-map f P (Some x) a = a

pub IfSome-unmap : {A B : Type 0} (f : A → B) (P : B → Type 0) (x : Option A) → IfSome (option_map f x) P → IfSome x (λ d. P (f d))
IfSome-unmap f P None a = a
IfSome-unmap f P (Some x) a = a

pub IfSome-first : {A : Type 0} (P Q : A → Type 0) (x : Option A) → IfSome x (λ d. P d × Q d) → IfSome x P
IfSome-first P Q None a = a
IfSome-first P Q (Some x) a = a.0

pub IfSome-second : {A : Type 0} (P Q : A → Type 0) (x : Option A) → IfSome x (λ d. P d × Q d) → IfSome x Q
IfSome-second P Q None a = a
IfSome-second P Q (Some x) a = a.1

pub IfSome-both : {A : Type 0} (P Q : A → Type 0) (x : Option A) → IfSome x P → IfSome x Q → IfSome x (λ d. P d × Q d)
IfSome-both P Q None a b = a
IfSome-both P Q (Some x) a b = (a, b)

module _ {D K : Type 0} (cmp : K → K → Ordering) (o : IsTotalOrder cmp) (key : D → K) (P : D → Type 0) where
  -- what holds of all that is found in a list in order holds of each
  pub each_at : (xs : List D) → IsStrictlySortedBy cmp (map key xs) → ((q : K) → IfSome (find (λ d. is_at (cmp q) (key d)) xs) P) → Each P xs
  each_at [] s h = tt
  each_at (x ∷ xs) s h =
      let builtin : IfSome (find (λ d. is_at (cmp (key x)) (key d)) (x ∷ xs)) P = h (key x) in (
        rw (tied_itself o (key x)) at builtin,
        each_at xs (sorted_tail cmp (key x) (map key xs) s) (λ q.
            let other : IfSome (find (λ d. is_at (cmp q) (key d)) (x ∷ xs)) P = h q in
            elim (cases_Bool (is_eq (cmp q (key x)))) [
              | inl b ↦ let none = past_at cmp o key key q x xs s b in rw none tt
              | inr b ↦ rw b at other
            ]),
      )

module _ {K X A B : Type 0} (cmp : K → K → Ordering) (o : IsTotalOrder cmp) (f : K → A) (g : X → B) (P : A → Type 0) (Q : B → Type 0) where
  -- what holds of the keys and values of the list that was read holds of the map's
  pub map_each : (ds fs : List (K × X)) → IsMapOf cmp ds fs → Each (λ v. P v.0 × Q v.1) (map (sees f g) ds) → Each (λ v. P v.0 × Q v.1) (map (sees f g) fs)
  map_each ds fs m a =
      let each = each_of_see (sees f g) (λ v. P v.0 × Q v.1) ds a in
      each_see (sees f g) (λ v. P v.0 × Q v.1) fs (each_at cmp o (λ e. e.0) (λ e. P (f e.0) × Q (g e.1)) fs m.keys.ordered (λ q.
      let t = is_at (cmp q) in
      let first = each_found (λ e. P (f e.0) × Q (g e.1)) (λ e. t e.0) ds each in
      let last = each_found (λ e. P (f e.0) × Q (g e.1)) (λ e. t e.0) (reverse ds) (each_reverse (λ e. P (f e.0) × Q (g e.1)) ds each) in
      let k = IfSome-map (λ e. e.0) (λ x. P (f x)) (find (λ e. t e.0) ds) (IfSome-first (λ e. P (f e.0)) (λ e. Q (g e.1)) _ first) in
      let v = IfSome-map (λ e. e.1) (λ x. Q (g x)) (find (λ e. t e.0) (reverse ds)) (IfSome-second (λ e. P (f e.0)) (λ e. Q (g e.1)) _ last) in
      let keys : option_map (λ e. e.0) (find (λ e. t e.0) ds) ≡ option_map (λ e. e.0) (find (λ e. t e.0) fs) =
      sym (find_keys t ds) ∙ sym (m.keys.firsts q) ∙ find_keys t fs in
      let values : option_map (λ e. e.1) (find (λ e. t e.0) (reverse ds)) ≡ option_map (λ e. e.1) (find (λ e. t e.0) fs) =
      sym (find_values t (reverse ds)) ∙ sym (m.lasts q) ∙ find_values t fs in
      IfSome-both (λ e. P (f e.0)) (λ e. Q (g e.1)) (find (λ e. t e.0) fs)
      (IfSome-unmap (λ e. e.0) (λ x. P (f x)) (find (λ e. t e.0) fs) (subst (λ o. IfSome o (λ x. P (f x))) keys k))
      (IfSome-unmap (λ e. e.1) (λ x. Q (g x)) (find (λ e. t e.0) fs) (subst (λ o. IfSome o (λ x. Q (g x))) values v))))

-- what holds of the list that was read holds of the set
pub set_each : {K A : Type 0} (cmp : K → K → Ordering) (o : IsTotalOrder cmp) (f : K → A) (P : A → Type 0) (ds fs : List K) → IsSetOf cmp ds fs
    → Each P (map f ds) → Each P (map f fs)
set_each cmp o f P ds fs m a = each_see f P fs (each_at cmp o (λ k. k) (λ k. P (f k)) fs (subst (IsStrictlySortedBy cmp) (sym (map-id fs)) m.ordered)
    (λ q. subst (λ x. IfSome x (λ k. P (f k))) (sym (m.firsts q)) (each_found (λ k. P (f k)) (is_at (cmp q)) ds (each_of_see f P ds a))))

-- ---- the laws of each

module _ {K A : Type 0} (s : Scheme) (scheme : SchemeLaws s) (size : ItemSize) (f : K → A) {p : A → Type 0} {g : ReadGrammar A} (l : ReadLaws p g) where
  pub set_read_laws : (cmp : K → K → Ordering) → IsTotalOrder cmp → (eq : K → K → Bool) → ((x y : K) → eq x y ≡ is_eq (cmp x y))
      → ((x y : K) → f x ≡ f y → eq x y ≡ true) → ReadLaws (Each p) (gathered_read f (Made (IsSetOf cmp) (map f)) s size g)
  set_read_laws cmp o eq match alike = gathered_laws f (Made (IsSetOf cmp) (map f)) (set_one cmp o eq match f alike) p (Each p)
      (λ ds w a h. subst (Each p) (sym h.2) (set_each cmp o f p ds h.0 h.1 a)) s scheme size g l

  pub hash_set_read_laws : (eq : K → K → Bool) → IsEquivalence eq → ((x y : K) → f x ≡ f y → eq x y ≡ true)
      → ReadLaws (λ v. Unit {0}) (gathered_read f (Made (IsHashSetOf eq) (hash_set_sees eq f)) s size g)
  hash_set_read_laws eq laws alike = gathered_laws f (Made (IsHashSetOf eq) (hash_set_sees eq f)) (hash_set_one eq laws f alike) p (λ v. Unit {0})
      (λ ds w a h. tt) s scheme size g l

  pub bag_read_laws : ReadLaws (λ v. Unit {0}) (gathered_read f (Made IsPermutation (heap_sees f)) s size g)
  bag_read_laws = gathered_laws f (Made IsPermutation (heap_sees f)) (bag_one f) p (λ v. Unit {0}) (λ ds w a h. tt) s scheme size g l

module _ {K X A B : Type 0} (s : Scheme) (scheme : SchemeLaws s) (size : ItemSize) (f : K → A) (g : X → B)
    {p : A → Type 0} {q : B → Type 0} {r : ReadGrammar A} {t : ReadGrammar B} (l : ReadLaws p r) (m : ReadLaws q t) where
  pub map_read_laws : (cmp : K → K → Ordering) → IsTotalOrder cmp → (eq : K → K → Bool) → ((x y : K) → eq x y ≡ is_eq (cmp x y))
      → ((x y : K) → f x ≡ f y → eq x y ≡ true)
      → ReadLaws (Each (λ v. p v.0 × q v.1)) (gathered_read (sees f g) (Made (IsMapOf cmp) (map (sees f g))) s size (pair_read r t))
  map_read_laws cmp o eq match alike = gathered_laws (sees f g) (Made (IsMapOf cmp) (map (sees f g))) (map_one cmp o eq match f g alike) (λ v. p v.0 × q v.1)
      (Each (λ v. p v.0 × q v.1))
      (λ ds w a h. subst (Each (λ v. p v.0 × q v.1)) (sym h.2) (map_each cmp o f g p q ds h.0 h.1 a)) s scheme size (pair_read r t) (pair_read_laws l m)

  pub hash_map_read_laws : (eq : K → K → Bool) → IsEquivalence eq → ((x y : K) → f x ≡ f y → eq x y ≡ true)
      → ReadLaws (λ v. Unit {0}) (gathered_read (sees f g) (Made (IsHashMapOf eq) (hash_map_sees eq f g)) s size (pair_read r t))
  hash_map_read_laws eq laws alike = gathered_laws (sees f g) (Made (IsHashMapOf eq) (hash_map_sees eq f g)) (hash_map_one eq laws f alike g)
      (λ v. p v.0 × q v.1) (λ v. Unit {0}) (λ ds w a h. tt) s scheme size (pair_read r t) (pair_read_laws l m)

module _ {D V W : Type 0} (see : D → V) (makes : List D → W → Type 0) (s : Scheme) (size : ItemSize) (g : ReadGrammar V) where
  -- the list was refused, and so is what is made of it
  pub gathered_refused : (count : ℕ) (old new : ReaderState) (e : ReadError) → SchemaReadRefused (list_read_of s count size g) old new e
      → SchemaReadRefused (gathered_read see makes s size g) old new e
  gathered_refused count old new e r = (
    refuses_map (reads_list s g) (gathered_read see makes s size g).reads g.borrow false old new e
        (λ b w t. (map see t.0, t.1)) r.0,
    r.1,
  )

  pub gathered_gives : (old new : ReaderState) (ds : List D) (w : W) → Gives (reads_list s g) old new (map see ds) → makes ds w
      → Gives (gathered_read see makes s size g).reads old new w
  gathered_gives old new ds w r m = gives_map (reads_list s g) (gathered_read see makes s size g).reads old new (map see ds) w (λ b t. (ds, t, m)) r

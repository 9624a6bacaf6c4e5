-- The laws of writing some order of the items as a list.
use Rattle.std.proofs.Common.{◌≡◌, ◌∙◌, sym, ap, subst, ℕ, ◌+◌, List, [], ◌∷◌, length, map, refl, Result, Ok, Err}
use Rattle.std.specs.List.{sum_by, All, swap, slice_set, slice_index_or}
use Rattle.std.specs.List.Sorted.{IsPermutation, apply_swaps, SwapsInRange}
use Rattle.std.proofs.lemmas.List.{length-map, map-set}
use Rattle.std.proofs.lemmas.List.Sums.{sum_by-cons}
use Rattle.std.proofs.lemmas.List.Elements.{All-nil, All-cons, All-head, All-tail}
use Rattle.std.proofs.lemmas.List.Sorted.{IsPermutation-refl, IsPermutation-sym, length_permutation, sum_by-IsPermutation, All-permutation}
use Rattle.std.proofs.Math.ListN.{get_or-map}
use Rattle.wincode_base.specs.Grammar.{WriteGrammar, WriteLaws, IsWriteStatic}
use Rattle.wincode_base.specs.Lengths.{Scheme, HasEncoding, encoding_len}
use Rattle.wincode_io.specs.Joins.{Each, total}
use Rattle.wincode_io.specs.Writers.{WriterState}
use Rattle.wincode_base.specs.Lists.{parts_write, list_write_of}
use Rattle.wincode_base.specs.ListLaws.{list_write_laws_of}
use Rattle.wincode_base.specs.Outcomes.{Wrote, WriteRefused, Stopped, WriteOutcome}
use Rattle.wincode_base.specs.WriteSequences.{wrote_map, unwritten_map, stopped_map}
use Rattle.wincode_base.specs.declared.meta.TypeMeta.{TypeMeta}
use Rattle.wincode_base.specs.declared.meta.TypeMeta.TheVariants.{Static, Dynamic}
use Rattle.wincode_base.specs.declared.error.WriteError.{WriteError}
use Rattle.wincode_base.specs.Gathered.{scattered_write_of, scattered_write}
use Rattle.wincode_base.specs.ItemSizes.{item_size}
use Rattle.wincode_base.specs.declared.sizes.ItemSize.{ItemSize}

sound_statics : {X V : Type 0} (sound p : X → Type 0) (model : X → V) (can : V → Type 0) (size : V → ℕ) (m : TypeMeta) → IsWriteStatic p model can size m
    → IsWriteStatic (λ x. sound x × p x) model can size m
sound_statics sound p model can size Dynamic h = tt
sound_statics sound p model can size (Static s z) h = (λ x y. h.0 x y.1, h.1)

-- the laws hold where more is known of the values
pub sounder_laws : {X V : Type 0} (sound : X → Type 0) {p : X → Type 0} {model : X → V} {g : WriteGrammar V} → WriteLaws p model g
    → WriteLaws (λ x. sound x × p x) model g
sounder_laws sound {p = p} {model = model} {g = g} l = record {
  has_encoding = l.has_encoding;
  encoding_can = l.encoding_can;
  encoding_size = l.encoding_size;
  can_fit = l.can_fit;
  statics = sound_statics sound p model g.can g.size g.meta l.statics;
}

pub total-sum_by : {V : Type 0} (size : V → ℕ) (vs : List V) → total size vs ≡ sum_by size vs
total-sum_by size [] = refl
total-sum_by size (v ∷ vs) = ap (λ n. size v + n) (total-sum_by size vs) ∙ sym (sum_by-cons size v vs)

total_permutation : {V : Type 0} (size : V → ℕ) (vs us : List V) → IsPermutation vs us → total size us ≡ total size vs
total_permutation size vs us p = total-sum_by size us ∙ sum_by-IsPermutation size vs us p ∙ sym (total-sum_by size vs)

all_each : {A : Type 0} (P : A → Type 0) (xs : List A) → Each P xs → All P xs
all_each P [] e = All-nil P
all_each P (x ∷ xs) e = All-cons P x xs e.0 (all_each P xs e.1)

each_all : {A : Type 0} (P : A → Type 0) (xs : List A) → All P xs → Each P xs
each_all P [] a = tt
each_all P (x ∷ xs) a = (All-head P x xs a, each_all P xs (All-tail P x xs a))

pub each_permutation : {A : Type 0} (P : A → Type 0) (xs ys : List A) → IsPermutation xs ys → Each P xs → Each P ys
each_permutation P xs ys p e = each_all P ys (All-permutation P xs ys p (all_each P xs e))

-- the size of a list is that of each order of it
pub scattered_size : {V : Type 0} (s : Scheme) (g : WriteGrammar V) (vs us : List V) → IsPermutation vs us → (parts_write s 24 g).size us
    ≡ (parts_write s 24 g).size vs
scattered_size s g vs us p = ap (λ n. encoding_len (s.encoding n) + total g.size us) (length_permutation vs us p)
    ∙ ap (λ n. encoding_len (s.encoding (length vs)) + n) (total_permutation g.size vs us p)

pub scattered_write_laws_of : {X Y V : Type 0} (s : Scheme) (size : ItemSize) (items : X → List Y) {is_valid : Y → Type 0} {model : Y → V} {g : WriteGrammar V}
    → WriteLaws is_valid model g → WriteLaws (λ x. Each is_valid (items x)) (λ x. map model (items x)) (scattered_write_of s size g)
scattered_write_laws_of s size items {is_valid = is_valid} {model = model} {g = g} laws =
    let l = list_write_laws_of s 24 size items is_valid model g laws in record {
      has_encoding = λ vs c. let t = l.has_encoding vs c in (t.0, (vs, IsPermutation-refl vs, t.1));
      encoding_can = λ vs b w. let us = w.0 in let c = l.encoding_can us b w.2 in let back = IsPermutation-sym vs us w.1 in
          (subst (λ n. HasEncoding s n) (length_permutation vs us w.1) c.0, each_permutation g.can us vs back c.1);
      encoding_size = λ vs b w. l.encoding_size w.0 b w.2 ∙ scattered_size s g vs w.0 w.1;
      can_fit = l.can_fit;
      statics = tt;
    }

pub scattered_write_laws : {X Y V : Type 0} (s : Scheme) (items : X → List Y) {is_valid : Y → Type 0} {model : Y → V} {g : WriteGrammar V}
    → WriteLaws is_valid model g → WriteLaws (λ x. Each is_valid (items x)) (λ x. map model (items x)) (scattered_write s g)
scattered_write_laws s items {g = g} laws = scattered_write_laws_of s (item_size g.meta) items laws

-- what is written in the order in which it is gone over is written in some order
module _ {S K V : Type 0} {put : S → List ℕ → S} {room : S → ℕ} (s : Scheme) (size : ItemSize) (g : WriteGrammar V) (vs : List V)
    {old new : WriterState put room K} where
  pub scattered_wrote : Wrote (list_write_of s 24 size g) old new vs → Wrote (scattered_write_of s size g) old new vs
  scattered_wrote r = wrote_map (list_write_of s 24 size g) (scattered_write_of s size g) vs vs (λ c. c) refl (λ b t. (vs, IsPermutation-refl vs, t)) r

  pub scattered_unwritten : {e : WriteError} → WriteRefused (list_write_of s 24 size g) old new vs e → WriteRefused (scattered_write_of s size g) old new vs e
  scattered_unwritten u = unwritten_map (list_write_of s 24 size g) (scattered_write_of s size g) vs vs (λ c. c) refl (λ b t. (vs, IsPermutation-refl vs, t)) u

  pub scattered_halted : {e : WriteError} → Stopped (list_write_of s 24 size g) old new vs e → Stopped (scattered_write_of s size g) old new vs e
  scattered_halted h = stopped_map (list_write_of s 24 size g) (scattered_write_of s size g) vs vs (λ a r. (vs, IsPermutation-refl vs, r)) h

  pub scattered_outcome : {A : Type 0} {is_valid : Type 0} (r : Result A WriteError) → WriteOutcome (list_write_of s 24 size g) old new vs is_valid r
      → WriteOutcome (scattered_write_of s size g) old new vs is_valid r
  scattered_outcome (Ok x) o = record { ok = scattered_wrote o.ok; value = o.value; refused = tt }
  scattered_outcome (Err e) o = record { ok = tt; value = tt; refused = (scattered_unwritten o.refused.0, scattered_halted o.refused.1) }

-- ---- an order of what is seen is what is seen of an order

map_swap : {A B : Type 0} (f : A → B) (xs : List A) (i j : ℕ) → map f (swap xs i j) ≡ swap (map f xs) i j
map_swap f [] i j = refl
map_swap f (d ∷ ys) i j =
    let l = d ∷ ys in
    map-set f (slice_set l i (slice_index_or l j d)) j (slice_index_or l i d)
    ∙ ap (λ t. slice_set t j (f (slice_index_or l i d))) (map-set f l i (slice_index_or l j d))
    ∙ ap (λ b. slice_set (slice_set (map f l) i (f (slice_index_or l j d))) j b) (sym (get_or-map f l i d))
    ∙ ap (λ a. slice_set (slice_set (map f l) i a) j (slice_index_or (map f l) i (f d))) (sym (get_or-map f l j d))

map_swaps : {A B : Type 0} (f : A → B) (xs : List A) (ms : List (ℕ × ℕ)) → map f (apply_swaps xs ms) ≡ apply_swaps (map f xs) ms
map_swaps f xs [] = refl
map_swaps f xs (m ∷ ms) = map_swap f (apply_swaps xs ms) m.0 m.1 ∙ ap (λ l. swap l m.0 m.1) (map_swaps f xs ms)

pub order_model : {A B : Type 0} (f : A → B) (xs : List A) (us : List B) → IsPermutation (map f xs) us → (es : List A) × IsPermutation xs es × (us ≡ map f es)
order_model f xs us p = (
  apply_swaps xs p.moves,
  record { moves = p.moves; below = subst (λ n. SwapsInRange n p.moves) (length-map xs f) p.below; is = refl },
  p.is ∙ sym (map_swaps f xs p.moves),
)

-- Many items that are written as their parts: what writing the parts of some answers.
use Rattle.std.proofs.Common.{◌≡◌, ◌∙◌, sym, ap, subst, ℕ, ◌+◌, ◌*◌, ◌<◌, ◌≤◌, List, [], ◌∷◌, ◌++◌, length, map, take, get_or, refl, arith, append-nil}
use Rattle.std.proofs.Common.{Result, Ok, Err}
use borrow.Rule.Slice.PartMut.{put_mid}
use Rattle.std.proofs.lemmas.Simd.{map-map}
use Rattle.wincode_io.specs.Joins.{Each}
use Rattle.wincode_io.specs.Writers.{WriterState, WriterLaws, Took}
use Rattle.wincode_base.specs.Grammar.{WriteGrammar, WriteLaws}
use Rattle.wincode_base.specs.Lists.{items_write, ItemsWriteRefused}
use Rattle.wincode_base.specs.Outcomes.{IsEncoded, Wrote, WriteRefused, Stopped, WriteOutcome}
use Rattle.wincode_base.specs.Strings.{reference_meta, reference_write}
use Rattle.wincode_base.specs.WriteSequences.{encoding_wrote, wrote_map, unwritten_map, stopped_map}
use Rattle.wincode_base.specs.ListLaws.{items_write_laws}
use Rattle.wincode_base.proofs.Walks.{WritesSoFar, walk_run, walk_run_refused, walk_run_halted, walk_all}
use Rattle.wincode_write.proofs.Fronts.{FilledSoFar, filled_more}
use Rattle.wincode_base.specs.declared.error.WriteError.{WriteError}
use Rattle.wincode_base.specs.declared.meta.TypeMeta.{TypeMeta}
use Rattle.wincode_base.specs.declared.meta.TypeMeta.TheVariants.{Static, Dynamic}

-- each has what its parts have
pub both_hold : {X Y : Type 0} (sound : Y → Type 0) (is_valid : X → Type 0) (parts : Y → X) (ys : List Y) → Each sound ys → Each is_valid (map parts ys)
    → Each (λ y. sound y × is_valid (parts y)) ys
both_hold sound is_valid parts [] s v = tt
both_hold sound is_valid parts (y ∷ ys) s v = ((s.0, v.0), both_hold sound is_valid parts ys s.1 v.1)

is_dynamic : (m : TypeMeta) → reference_meta m ≡ Dynamic → m ≡ Dynamic
is_dynamic Dynamic e = refl
is_dynamic (Static s z) e = absurd (cc e)

module _ {V : Type 0} (g : WriteGrammar V) where
  item_refused : (vs : List V) (left : ℕ) (added : List ℕ) (e : WriteError) → ItemsWriteRefused g vs left added e
      → ItemsWriteRefused (reference_write g) vs left added e
  item_refused vs left added e r = λ dynamic. let i = r (is_dynamic g.meta dynamic) in record {
    before = i.before;
    item = i.item;
    after = i.after;
    encoding = i.encoding;
    rest = i.rest;
    is = i.is;
    written = i.written;
    joins = i.joins;
    refused = i.refused;
  }

  module _ {X Y : Type 0} (see : X → V) (parts : Y → X) (xs : List X) (ys : List Y) (are_parts : xs ≡ map parts ys) where
    same : map see xs ≡ map (λ y. see (parts y)) ys
    same = ap (map see) are_parts ∙ map-map see parts ys

    module _ {S K : Type 0} {put : S → List ℕ → S} {room : S → ℕ} {old new : WriterState put room K} where
      pub parts_wrote : Wrote (items_write g) old new (map see xs) → Wrote (items_write (reference_write g)) old new (map (λ y. see (parts y)) ys)
      parts_wrote r = wrote_map (items_write g) (items_write (reference_write g)) _ _ (λ c. c) refl (λ b w. w) (subst (Wrote (items_write g) old new) same r)

      pub parts_refused : {e : WriteError} → WriteRefused (items_write g) old new (map see xs) e
          → WriteRefused (items_write (reference_write g)) old new (map (λ y. see (parts y)) ys) e
      parts_refused {e} u = unwritten_map (items_write g) (items_write (reference_write g)) _ _ (λ c. c) refl (λ b w. w)
          (subst (λ vs. WriteRefused (items_write g) old new vs e) same u)

      pub parts_halted : {e : WriteError} → Stopped (items_write g) old new (map see xs) e
          → Stopped (items_write (reference_write g)) old new (map (λ y. see (parts y)) ys) e
      parts_halted {e} s = stopped_map (items_write g) (items_write (reference_write g)) _ _ (λ added r. item_refused _ (room old.content) added e r)
          (subst (λ vs. Stopped (items_write g) old new vs e) same s)

-- ---- a block at a time

-- an item more was encoded, over the bytes from its place on
pub sized_front : {A V : Type 0} (g : WriteGrammar V) (f : A → V) (p : A → Type 0) (xs : List A) (i n k : ℕ) (x : A) (h : i < length xs)
    (is : x ≡ get_or xs i x) (old part : List ℕ)
    → FilledSoFar g f p i (i * n) xs old → (n ≤ length part) × IsEncoded g (f x) (take n part) × p x
    → FilledSoFar g f p (i + 1) ((i + 1) * n) xs (put_mid (i * n) k old part)
sized_front g f p xs i n k x h is old part w one =
    let more : i * n + n ≡ (i + 1) * n = omega arith in
    subst (λ m. FilledSoFar g f p (i + 1) m xs (put_mid (i * n) k old part)) more (filled_more g f p xs i (i * n) n k x h is old part w one)

module _ {S K V E : Type 0} {put : S → List ℕ → S} {room : S → ℕ} (laws : WriterLaws put room) {g : WriteGrammar V} {P : E → Type 0} {see : E → V}
    (l : WriteLaws P see g) {old cur new : WriterState put room K} {all left : List E} (w : WritesSoFar g see P old cur all left) where
  -- the bytes of the next items were written
  pub block_wrote : (run more : List E) → left ≡ run ++ more → (bytes : List ℕ) → IsEncoded (items_write g) (map see run) bytes → Each P run
      → length bytes ≤ room cur.content → Took bytes cur new → WritesSoFar g see P old new all more
  block_wrote run more cut bytes e each fits took =
      let size = (items_write_laws P see g l).encoding_size (map see run) bytes e.1 in
      walk_run laws l run more w cut (encoding_wrote (items_write g) (map see run) bytes e.1 size cur new e.0 (record { fits = fits; took = took })) each

  -- what is left was written by itself
  pub rest_written : {A : Type 0} (r : Result A WriteError) → WriteOutcome (items_write g) cur new (map see left) (Each P left) r
      → WriteOutcome (items_write g) old new (map see all) (Each P all) r
  rest_written (Ok x) o =
      let a = walk_all laws l (walk_run laws l left [] w (sym (append-nil left)) o.ok o.value) refl in
      record { ok = a.0; value = a.1; refused = tt }
  rest_written (Err e) o =
      let cut = sym (append-nil left) in
      record { ok = tt; value = tt; refused = (walk_run_refused laws l left [] w cut o.refused.0, walk_run_halted laws l left [] w cut o.refused.1) }

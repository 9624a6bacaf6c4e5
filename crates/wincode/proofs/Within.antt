-- Whether all items of a collection, and all parts of a value, are within their limits.
use Rattle.std.proofs.Common.{◌≡◌, ◌∙◌, sym, ap, subst, ℕ, List, [], ◌∷◌, ◌++◌, length, map, refl, arith, append_assoc, append-nil}
use Rattle.std.proofs.Common.{Option, Some, None, Result, Ok, Err}
use Rattle.std.proofs.lemmas.List.{length-map, map-append}
use Rattle.std.specs.Option.{option_map}
use Rattle.std.specs.Result.{result_map_both}
use Rattle.wincode_io.specs.Joins.{Each}
use Rattle.wincode_io.specs.JoinLaws.{each_append, each_split}
use Rattle.wincode_base.specs.Arrays.{IsArray}
use Rattle.wincode_base.specs.Grammar.{WriteGrammar}
use Rattle.wincode_base.specs.Lengths.{Scheme, SchemeLaws}
use Rattle.wincode_base.specs.Tags.{IfPart, IfSide}
use Rattle.wincode_base.specs.Lists.{ListFits}

-- so far each item before those that are left is within its limits, where it is valid
pub record WithinSoFar {E V : Type 0} (fits : V → Type 0) (see : E → V) (P : E → Type 0) (all rest : List E) : Type 0 where
  pub done : List E
  pub joins : done ++ rest ≡ all
  pub each : Each (λ e. P e → fits (see e)) done

nothing : {E : Type 0} (rest : List E) → length rest ≡ 0 → rest ≡ []
nothing [] none = refl
nothing (e ∷ rest) none = absurd (omega (arith, none))

module _ {E V : Type 0} (fits : V → Type 0) (see : E → V) (P : E → Type 0) where
  -- items of which each is within its limits, where it is valid
  pub each_fits : (es : List E) → Each (λ e. P e → fits (see e)) es → Each P es → Each fits (map see es)
  each_fits [] h v = tt
  each_fits (e ∷ es) h v = (h.0 v.0, each_fits es h.1 v.1)

  -- items of a type without limits
  pub all_fit : ((e : E) → P e → fits (see e)) → (es : List E) → Each P es → Each fits (map see es)
  all_fit h [] v = tt
  all_fit h (e ∷ es) v = (h e v.0, all_fit h es v.1)

  item_fits : (done rest : List E) (e : E) → Each fits (map see (done ++ (e ∷ rest))) → fits (see e)
  item_fits [] rest e f = f.0
  item_fits (d ∷ done) rest e f = item_fits done rest e f.1

  pub within_none : (all : List E) → WithinSoFar fits see P all all
  within_none all = record { done = []; joins = refl; each = tt }

  pub within_more : {all rest left : List E} {e : E} → WithinSoFar fits see P all left → left ≡ e ∷ rest → (P e → fits (see e))
      → WithinSoFar fits see P all rest
  within_more {all} {rest} {left} {e} w k h = record {
    done = w.done ++ (e ∷ []);
    joins = append_assoc w.done (e ∷ []) rest ∙ ap (λ t. w.done ++ t) (sym k) ∙ w.joins;
    each = each_append (λ x. P x → fits (see x)) w.done (e ∷ []) w.each (h, tt);
  }

  pub within_all : {all left : List E} → WithinSoFar fits see P all left → length left ≡ 0 → Each P all → Each fits (map see all)
  within_all {all} {left} w none v =
      let done : w.done ≡ all = sym (append-nil w.done) ∙ ap (λ t. w.done ++ t) (sym (nothing left none)) ∙ w.joins in
      each_fits all (subst (Each (λ x. P x → fits (see x))) done w.each) v

  pub past_item : {all rest left : List E} {e : E} → WithinSoFar fits see P all left → left ≡ e ∷ rest → (fits (see e) → ⊥) → Each fits (map see all) → ⊥
  past_item {all} {rest} {left} {e} w k past f =
      let q : all ≡ w.done ++ (e ∷ rest) = sym w.joins ∙ ap (λ t. w.done ++ t) k in
      past (item_fits w.done rest e (subst (λ t. Each fits (map see t)) q f))

  -- two runs of items, one after the other
  module _ (xs ys all : List E) (q : xs ++ ys ≡ all) where
    pub runs_fit : (Each P xs → Each fits (map see xs)) → (Each P ys → Each fits (map see ys)) → Each P all → Each fits (map see all)
    runs_fit f g v =
        let w = each_split P xs ys (subst (Each P) (sym q) v) in
        subst (Each fits) (sym (map-append see xs ys) ∙ ap (map see) q) (each_append fits (map see xs) (map see ys) (f w.0) (g w.1))

    pub fit_runs : Each fits (map see all) → Each fits (map see xs) × Each fits (map see ys)
    fit_runs f = each_split fits (map see xs) (map see ys) (subst (Each fits) (sym (sym (map-append see xs ys) ∙ ap (map see) q)) f)

  -- so many items
  pub array_fits : (n : ℕ) (es : List E) → (Each P es → Each fits (map see es)) → IsArray n P es → IsArray n fits (map see es)
  array_fits n es f v = (length-map es see ∙ v.0, f v.1)

  -- what is there of an option
  pub part_fits : ((e : E) → P e → fits (see e)) → (o : Option E) → IfPart P o → IfPart fits (option_map see o)
  part_fits h None v = tt
  part_fits h (Some e) v = h e v

-- the side of a result that is there
pub side_fits : {E V F W : Type 0} (fits : V → Type 0) (see : E → V) (P : E → Type 0) (others : W → Type 0) (view : F → W) (Q : F → Type 0)
    → ((e : E) → P e → fits (see e)) → ((e : F) → Q e → others (view e))
    → (r : Result E F) → IfSide P Q r → IfSide fits others (result_map_both see view r)
side_fits fits see P others view Q h k (Ok e) v = h e v
side_fits fits see P others view Q h k (Err e) v = k e v

-- a list, whose length the scheme admits
pub list_fits : {E V : Type 0} (s : Scheme) (laws : SchemeLaws s) (g : WriteGrammar V) (see : E → V) (es : List E) (n p : ℕ) → n ≡ length es → p ≡ g.prealloc
    → s.admits n p → Each g.fits (map see es) → ListFits s g (map see es)
list_fits s laws g see es n p count counts a f =
    let m : n ≡ length (map see es) = count ∙ sym (length-map es see) in
    let b : s.admits (length (map see es)) g.prealloc = subst (s.admits (length (map see es))) counts (subst (λ k. s.admits k p) m a) in
    (laws.admitted (length (map see es)) g.prealloc b, b, f)

-- and one whose length it doesn't
pub list_past : {E V : Type 0} (s : Scheme) (g : WriteGrammar V) (see : E → V) (es : List E) (n p : ℕ) → n ≡ length es → p ≡ g.prealloc
    → (s.admits n p → ⊥) → ListFits s g (map see es) → ⊥
list_past s g see es n p count counts past f =
    let m : length (map see es) ≡ n = length-map es see ∙ sym count in
    past (subst (s.admits n) (sym counts) (subst (λ k. s.admits k g.prealloc) m f.1))

each_free : {V : Type 0} (fits : V → Type 0) → ((v : V) → fits v) → (vs : List V) → Each fits vs
each_free fits free [] = tt
each_free fits free (v ∷ vs) = (free v, each_free fits free vs)

-- a list of items without limits, whose length the scheme admits
pub free_fits : {V : Type 0} (s : Scheme) (laws : SchemeLaws s) (g : WriteGrammar V) → ((v : V) → g.fits v) → (vs : List V) (n p : ℕ) → n ≡ length vs
    → p ≡ g.prealloc → s.admits n p → ListFits s g vs
free_fits s laws g free vs n p count counts a =
    let b : s.admits (length vs) g.prealloc = subst (s.admits (length vs)) counts (subst (λ k. s.admits k p) count a) in
    (laws.admitted (length vs) g.prealloc b, b, each_free g.fits free vs)

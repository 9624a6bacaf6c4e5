-- The laws of byte forms, of views of them, and of lists that are lent where they lie.
use Rattle.std.proofs.Common.{◌≡◌, ◌∙◌, sym, ap, subst, ℕ, ◌≤◌, ◌^◌, Bool, true, false, List, [], ◌∷◌, ◌++◌, length, map, take, refl, arith, nat_lt}
use Rattle.std.proofs.Common.{zero, suc, length-append, length-take}
use Rattle.std.specs.Prelude.{if◌then◌else◌, max, replicate}
use Rattle.wincode_io.specs.Forms.{IsByteForm}
use Rattle.wincode_io.specs.Joins.{IsUnambiguous, Each}
use Rattle.wincode_io.specs.Writers.{byte_limit}
use Rattle.wincode_base.specs.Grammar.{ReadGrammar, WriteGrammar, ReadRefusal, ReadLaws, WriteLaws, ReadsBack, IsReadStatic, IsWriteStatic}
use Rattle.wincode_base.specs.LeafLaws.{same_front}
use Rattle.wincode_base.specs.Lengths.{bincode}
use Rattle.wincode_base.specs.LengthLaws.{bincode_laws}
use Rattle.wincode_base.specs.ListLaws.{list_read_laws, list_write_laws, list_reads_back}
use Rattle.wincode_base.specs.Views.{form_read, form_write, form_prealloc, lent_read, lent_write}
use Rattle.wincode_base.specs.declared.meta.TypeMeta.TheVariants.{Static, Dynamic}

pub form_prealloc_some : (s : ℕ) → 1 ≤ form_prealloc s
form_prealloc_some s = omega arith

pub counts_some : (s : ℕ) → 1 ≤ max s 1
counts_some s = omega arith

abbrev zeros : ℕ → List ℕ
zeros s = replicate s 0

-- b as s bytes: its first s, with zeros behind it where it has fewer
abbrev as_long : ℕ → List ℕ → List ℕ
as_long s b = take s (b ++ zeros s)

length-zeros : (s : ℕ) → length (zeros s) ≡ s
length-zeros zero = refl
length-zeros (suc s) = ap suc (length-zeros s)

as_long_size : (s : ℕ) (b : List ℕ) → length (as_long s b) ≡ s
as_long_size s b = omega (arith, length-take s (b ++ zeros s), length-append b (zeros s), length-zeros s)

whole_front : (s : ℕ) (b c : List ℕ) → length b ≡ s → take s (b ++ c) ≡ b
whole_front zero [] c e = refl
whole_front zero (x ∷ b) c e = absurd (omega arith)
whole_front (suc s) [] c e = absurd (omega arith)
whole_front (suc s) (x ∷ b) c e = ap (λ t. x ∷ t) (whole_front s b c (omega (arith, e)))

module _ {X : Type 0} {is_valid : X → Type 0} {s : ℕ} {form : X → List ℕ} {value : List ℕ → X} (law : IsByteForm is_valid s form value) where
  form_one : IsUnambiguous {V = X} (λ b v. is_valid v × (b ≡ form v))
  form_one a b x y v w p q e =
      let size : length a ≡ length b = ap length p.1 ∙ law.long v p.0 ∙ sym (ap length q.1 ∙ law.long w q.0) in
      let same = same_front a b x y size e in
      (same, sym (law.value_form v p.0) ∙ ap value (sym p.1 ∙ same ∙ q.1) ∙ law.value_form w q.0)

  form_static : (within any : Bool) → IsReadStatic (λ b v. is_valid v × (b ≡ form v)) (if within then Static s any else Dynamic)
  form_static true any = (λ b v r. ap length r.1 ∙ law.long v r.0, λ z b all e. (value b, (law.valid_value b all e, sym (law.form_value b all e))))
  form_static false any = tt

  pub form_read_laws : {refusal : ReadRefusal} (any : Bool) (prealloc borrow : ℕ) → 1 ≤ prealloc
      → ReadLaws is_valid (form_read is_valid s form any prealloc borrow refusal)
  form_read_laws any prealloc borrow some = record {
    one_front = form_one;
    reads_valid = λ b v r. r.0;
    statics = form_static (nat_lt s (2 ^ 64)) any;
    prealloc = some;
  }

  form_encoding : (v : X) → (b : List ℕ) × ((length b ≡ s) × (is_valid v → b ≡ form v))
  form_encoding v = (as_long s (form v), (as_long_size s (form v), λ p. whole_front s (form v) (zeros s) (law.long v p)))

  -- `of` is the value that a Y has
  form_sized : {Y : Type 0} (of : Y → X) (within any : Bool) → IsWriteStatic (λ y. is_valid (of y)) of (λ v. Unit {0}) (λ v. s)
      (if within then Static s any else Dynamic)
  form_sized of true any = (λ y p. tt, λ v c. refl)
  form_sized of false any = tt

  pub form_write_laws : {Y : Type 0} (of : Y → X) (any : Bool) (prealloc : ℕ) → WriteLaws (λ y. is_valid (of y)) of (form_write is_valid s form any prealloc)
  form_write_laws of any prealloc = record {
    has_encoding = λ v c. form_encoding v;
    encoding_can = λ v b w. tt;
    encoding_size = λ v b w. w.0;
    can_fit = λ v f. f;
    statics = form_sized of (nat_lt s (2 ^ 64)) any;
  }

pub form_reads_back : {X Y : Type 0} {is_valid : X → Type 0} {s : ℕ} {form : X → List ℕ} {refusal : ReadRefusal} (of : Y → X) (any : Bool) (prealloc borrow : ℕ)
    → ReadsBack (λ y. is_valid (of y)) of (form_write is_valid s form any prealloc) of (form_read is_valid s form any prealloc borrow refusal)
form_reads_back of any prealloc borrow = record {
  back = λ y b p t f. (p, t.1 p);
  within = λ b y r. tt;
  same_prealloc = refl;
  same_meta = refl;
}

-- ---- lists that are lent

pub lent_read_laws : {V : Type 0} (borrow s : ℕ) (is_valid : V → Type 0) (g : ReadGrammar V) → ReadLaws is_valid g
    → ReadLaws (Each is_valid) (lent_read borrow s g)
lent_read_laws borrow s is_valid g laws =
    let l = list_read_laws (bincode byte_limit) (bincode_laws byte_limit) 16 (omega arith) is_valid g laws in
    record { one_front = l.one_front; reads_valid = l.reads_valid; statics = tt; prealloc = omega arith }

pub same_items : {V : Type 0} (vs : List V) → map (λ v. v) vs ≡ vs
same_items [] = refl
same_items (v ∷ vs) = ap (λ ws. v ∷ ws) (same_items vs)

-- `items` are those that a Y has
pub lent_write_laws : {Y V : Type 0} (items : Y → List V) (is_valid : V → Type 0) (g : WriteGrammar V) → WriteLaws is_valid (λ v. v) g
    → WriteLaws (λ y. Each is_valid (items y)) items (lent_write g)
lent_write_laws items is_valid g laws =
    let l = list_write_laws (bincode byte_limit) 16 items is_valid (λ v. v) g laws in
    record { has_encoding = l.has_encoding; encoding_can = l.encoding_can; encoding_size = l.encoding_size; can_fit = l.can_fit; statics = tt }

pub lent_reads_back : {Y V : Type 0} (borrow s : ℕ) (items : Y → List V) (is_valid : V → Type 0) (w : WriteGrammar V) (r : ReadGrammar V)
    → ReadsBack is_valid (λ v. v) w (λ v. v) r
    → ReadsBack (λ y. Each is_valid (items y)) items (lent_write w) items (lent_read borrow s r)
lent_reads_back {Y} {V} borrow s items is_valid w r law =
    let l = list_reads_back (bincode byte_limit) (bincode_laws byte_limit) 16 items is_valid (λ v. v) w (λ v. v) r law in
    let g = lent_write w in let h = lent_read borrow s r in
    record {
      back = λ y b p t f. subst (h.reads b) (same_items (items y))
          (l.back y b p (subst (λ vs. g.writes b vs) (sym (same_items (items y))) t) (subst g.fits (sym (same_items (items y))) f));
      within = λ b y t. subst g.fits (same_items (items y)) (l.within b y (subst (h.reads b) (sym (same_items (items y))) t));
      same_prealloc = refl;
      same_meta = refl;
    }

-- the same, of a list that contracts see by the values that its items are
pub lent_reads_back_model : {Y V : Type 0} (borrow s : ℕ) (items : Y → List V) (is_valid : V → Type 0) (w : WriteGrammar V) (r : ReadGrammar V)
    → ReadsBack is_valid (λ v. v) w (λ v. v) r
    → ReadsBack (λ y. Each is_valid (items y)) (λ y. map (λ v. v) (items y)) (lent_write w) items (lent_read borrow s r)
lent_reads_back_model {Y} {V} borrow s items is_valid w r law =
    let l = list_reads_back (bincode byte_limit) (bincode_laws byte_limit) 16 items is_valid (λ v. v) w (λ v. v) r law in
    let h = lent_read borrow s r in
    record {
      back = λ y b p t f. subst (h.reads b) (same_items (items y)) (l.back y b p t f);
      within = λ b y t. l.within b y (subst (h.reads b) (sym (same_items (items y))) t);
      same_prealloc = refl;
      same_meta = refl;
    }

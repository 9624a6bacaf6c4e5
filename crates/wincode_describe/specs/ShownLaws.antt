-- The laws of grammars whose values are shown in parts.
use Rattle.std.proofs.Common.{◌≡◌, ◌∙◌, sym, ap, ℕ, ◌+◌, ◌≤◌, ◌^◌, Bool, List, ◌∷◌, length, refl, arith, true, false, nat_eq, nat_lt, cond, length-append}
use Rattle.std.proofs.lemmas.Bool.{eqb-true}
use Rattle.wincode_io.specs.NumberLaws.{length-le}
use Rattle.wincode_base.specs.Grammar.{ReadGrammar, ReadLaws, IsReadStatic}
use Rattle.wincode_base.specs.LeafLaws.{number_one}
use Rattle.wincode_base.specs.Leaves.{number_read}
use Rattle.wincode_base.specs.Pairs.{pair_meta}
use Rattle.wincode_base.specs.Sequences.{then_unambiguous}
use Rattle.wincode_base.specs.Tags.{sides_meta}
use Rattle.wincode_base.specs.declared.meta.TypeMeta.{TypeMeta}
use Rattle.wincode_base.specs.declared.meta.TypeMeta.TheVariants.{Static, Dynamic}
use Rattle.wincode_io.specs.Joins.{IsUnambiguous}
use Rattle.wincode_describe.specs.Parts.{Part, Tag}
use Rattle.wincode_describe.specs.ShownGrammars.{shown_read, IsChosen, CaseGrammars, chosen_read, nameless_read, read_if, one_case, or_case}

-- any parts will do
abbrev pub any : {V : Type 0} → V → Type 0
any v = Unit {0}

shown_static : {V : Type 0} (show : V → List Part) (g : ReadGrammar V) (m : TypeMeta) → IsReadStatic g.reads m → IsReadStatic (shown_read show g).reads m
shown_static show g Dynamic h = tt
shown_static show g (Static s z) h = (λ b w r. h.0 b r.0 r.1, λ t b all e. let k = h.1 t b all e in (show k.0, (k.0, k.1, refl)))

pub shown_laws : {V : Type 0} {p : V → Type 0} (show : V → List Part) {g : ReadGrammar V} → ReadLaws p g → ReadLaws any (shown_read show g)
shown_laws show {g = g} l = record {
  one_front = λ a b x y v w r s e. let k = l.one_front a b x y r.0 s.0 r.1 s.1 e in (k.0, r.2 ∙ ap show k.1 ∙ sym s.2);
  reads_valid = λ b w r. tt;
  statics = shown_static show g g.meta l.statics;
  prealloc = l.prealloc;
}

-- whatever its values are
pub any_laws : {V : Type 0} {p : V → Type 0} {g : ReadGrammar V} → ReadLaws p g → ReadLaws any g
any_laws l = record { one_front = l.one_front; reads_valid = λ b v r. tt; statics = l.statics; prealloc = l.prealloc }

-- ---- what stands behind a tag

-- every encoding has the size, if one is announced
abbrev pub IsSized : (List ℕ → List Part → Type 0) → TypeMeta → Type 0
IsSized reads Dynamic = Unit {0}
IsSized reads (Static s z) = (b : List ℕ) (w : List Part) → reads b w → length b ≡ s

-- the laws of what stands behind each tag
pub record CasesLaws (cases : CaseGrammars) : Type 0 where
  pub one : (t : ℕ) → IsUnambiguous (cases.case t).reads
  pub sized : (t : ℕ) → IsSized (cases.case t).reads cases.meta
  pub prealloc : 1 ≤ cases.prealloc

sized_static : (reads : List ℕ → List Part → Type 0) (m : TypeMeta) → IsReadStatic reads m → IsSized reads m
sized_static reads Dynamic h = tt
sized_static reads (Static s z) h = h.0

nameless_sized : (t : ℕ) (m : TypeMeta) → IsSized (nameless_read t).reads m
nameless_sized t Dynamic = tt
nameless_sized t (Static s z) = λ b w r. absurd r

if_one : (b : Bool) (g h : ReadGrammar (List Part)) → IsUnambiguous g.reads → IsUnambiguous h.reads → IsUnambiguous (read_if b g h).reads
if_one true g h i j = i
if_one false g h i j = j

if_sized : (b : Bool) (g h : ReadGrammar (List Part)) (m : TypeMeta) → IsSized g.reads m → IsSized h.reads m → IsSized (read_if b g h).reads m
if_sized true g h m i j = i
if_sized false g h m i j = j

-- a size that all have is the size of each
first_sized : (reads : List ℕ → List Part → Type 0) (m n : TypeMeta) → IsSized reads m → IsSized reads (sides_meta m n)
first_sized reads Dynamic n h = tt
first_sized reads (Static a x) Dynamic h = tt
first_sized reads (Static a x) (Static b y) h = elim (nat_eq a b) as (λ t. IsSized reads (cond t (Static a false) Dynamic)) [ true ↦ h | false ↦ tt ]

second_sized : (reads : List ℕ → List Part → Type 0) (m n : TypeMeta) → IsSized reads n → IsSized reads (sides_meta m n)
second_sized reads Dynamic n h = tt
second_sized reads (Static a x) Dynamic h = tt
second_sized reads (Static a x) (Static b y) h = elim (nat_eq a b) as (λ t. (t ≡ true → a ≡ b) → IsSized reads (cond t (Static a false) Dynamic))
    [ true ↦ (λ e c w r. h c w r ∙ sym (e refl)) | false ↦ (λ e. tt) ] (eqb-true a b)

pub one_case_laws : (n : ℕ) {g : ReadGrammar (List Part)} → ReadLaws any g → CasesLaws (one_case n g)
one_case_laws n {g = g} l = record {
  one = λ t. if_one (nat_eq n t) g (nameless_read t) l.one_front (λ a b x y v w p q e. absurd p);
  sized = λ t. if_sized (nat_eq n t) g (nameless_read t) g.meta (sized_static g.reads g.meta l.statics) (nameless_sized t g.meta);
  prealloc = l.prealloc;
}

pub or_case_laws : (n : ℕ) {g : ReadGrammar (List Part)} {others : CaseGrammars} → ReadLaws any g → CasesLaws others → CasesLaws (or_case n g others)
or_case_laws n {g = g} {others = others} l m = record {
  one = λ t. if_one (nat_eq n t) g (others.case t) l.one_front (m.one t);
  sized = λ t. if_sized (nat_eq n t) g (others.case t) (sides_meta g.meta others.meta)
      (first_sized g.reads g.meta others.meta (sized_static g.reads g.meta l.statics)) (second_sized (others.case t).reads g.meta others.meta (m.sized t));
  prealloc = let a = l.prealloc in omega arith;
}

-- ---- a tag, and then what it names

pub chosen_one : (k : ℕ) (cases : CaseGrammars) → CasesLaws cases → (t : ℕ) → IsUnambiguous (IsChosen k cases.case t)
chosen_one k cases l t a b x y v w p q e = let r = l.one t a b x y p.0 q.0 p.1 q.1 e in (r.0, p.2 ∙ ap (λ u. Tag k t ∷ u) r.1 ∙ sym q.2)

chosen_static : (k : ℕ) (cases : CaseGrammars) (m : TypeMeta) → ((t : ℕ) → IsSized (cases.case t).reads m)
    → IsReadStatic (chosen_read k cases).reads (pair_meta (Static k true) m)
chosen_static k cases Dynamic h = tt
chosen_static k cases (Static s z) h =
    elim (nat_lt (k + s) (2 ^ 64)) as (λ t. IsReadStatic {V = List Part} (chosen_read k cases).reads (cond t (Static (k + s) false) Dynamic)) [
      | true ↦ (
        λ b v r. ap length r.joins ∙ length-append r.x r.y ∙ ap (λ n. n + length r.y) (ap length r.one.1 ∙ length-le k r.before)
            ∙ ap (λ n. k + n) (h r.before r.y r.two.0 r.two.1),
        λ z. absurd (cc z),
      )
      | false ↦ tt
    ]

pub chosen_laws : (k : ℕ) {cases : CaseGrammars} → CasesLaws cases → ReadLaws any (chosen_read k cases)
chosen_laws k {cases = cases} l = record {
  one_front = then_unambiguous (number_read k true).reads (IsChosen k cases.case) (number_one k true) (chosen_one k cases l);
  reads_valid = λ b v r. tt;
  statics = chosen_static k cases cases.meta l.sized;
  prealloc = l.prealloc;
}

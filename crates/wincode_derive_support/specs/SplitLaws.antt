-- The laws of cases in two parts, from those of each.
use Rattle.std.proofs.Common.{◌≡◌, sym, ap, subst, ℕ, ◌<◌, ◌≤◌, List, arith, Result, Ok, Err}
use Rattle.std.specs.Result.{result_map_both}
use Rattle.wincode_io.specs.Joins.{IsUnambiguous}
use Rattle.wincode_base.specs.Grammar.{ReadGrammar, WriteGrammar}
use Rattle.wincode_base.specs.TagLaws.{sides_static, sides_reads_back}
use Rattle.wincode_base.specs.Tags.{sides_tag, IfSide, IsSidePart, sides_read, sides_write}
use Rattle.wincode_derive_support.specs.Sums.{WriteAnswer, sides_answer, IsAnswer, CaseReads}
use Rattle.wincode_derive_support.specs.SumLaws.{CaseLaws, CasesBack, cases_answers}
use Rattle.wincode_derive_support.specs.Splits.{split_own}

-- ---- reading

-- a tag below n is none that isn't
below_apart : (a b n t : ℕ) → a ≡ t → a < n → b ≡ t → n ≤ b → ⊥
below_apart a b n t i s j u = omega arith

module _ {V W : Type 0} (n : ℕ) {tag : V → ℕ} {own : V → Type 0} {tag' : W → ℕ} {own' : W → Type 0} {p : V → Type 0} {q : W → Type 0} {g : ReadGrammar V}
    {h : ReadGrammar W} (l : CaseLaws tag own p g) (m : CaseLaws tag' own' q h) where
  split_one : (t : ℕ) → IsUnambiguous (CaseReads (sides_tag tag tag') (split_own n tag own tag' own') (IsSidePart g.reads h.reads) t)
  split_one t a b x y (Ok v) (Ok w) i j e = let r = l.one t a b x y v w (i.0, i.1.0, i.2) (j.0, j.1.0, j.2) e in (r.0, ap (λ u. Ok u) r.1)
  split_one t a b x y (Ok v) (Err w) i j e = absurd (below_apart (tag v) (tag' w) n t i.0 i.1.1 j.0 j.1.1)
  split_one t a b x y (Err v) (Ok w) i j e = absurd (below_apart (tag w) (tag' v) n t j.0 j.1.1 i.0 i.1.1)
  split_one t a b x y (Err v) (Err w) i j e = let r = m.one t a b x y v w (i.0, i.1.0, i.2) (j.0, j.1.0, j.2) e in (r.0, ap (λ u. Err u) r.1)

  split_valid : (b : List ℕ) (r : Result V W) → IsSidePart g.reads h.reads b r → IfSide p q r
  split_valid b (Ok v) r = l.reads_valid b v r
  split_valid b (Err w) r = m.reads_valid b w r

  -- cases with tags below n, before others
  pub split_laws : CaseLaws (sides_tag tag tag') (split_own n tag own tag' own') (IfSide p q) (sides_read g h)
  split_laws = record {
    one = split_one;
    reads_valid = split_valid;
    statics = sides_static g h g.meta h.meta l.statics m.statics;
    prealloc = let a = l.prealloc in omega arith;
  }

-- ---- what is written reads back

module _ {X Y V V' W W' : Type 0} (n : ℕ) {p : X → Type 0} {q : Y → Type 0} {ws : X → V'} {wtag : V' → ℕ} {wown : V' → Type 0} {w : WriteGrammar V'}
    {rs : X → V} {rtag : V → ℕ} {rown : V → Type 0} {r : ReadGrammar V} {ws' : Y → W'} {wtag' : W' → ℕ} {wown' : W' → Type 0} {w' : WriteGrammar W'}
    {rs' : Y → W} {rtag' : W → ℕ} {rown' : W → Type 0} {r' : ReadGrammar W} (l : CasesBack p ws wtag wown w rs rtag rown r)
    (m : CasesBack q ws' wtag' wown' w' rs' rtag' rown' r') where
  split_same : (o : Result X Y) → sides_tag wtag wtag' (result_map_both ws ws' o) ≡ sides_tag rtag rtag' (result_map_both rs rs' o)
  split_same (Ok x) = l.same_tag x
  split_same (Err y) = m.same_tag y

  split_own_read : (o : Result X Y) → split_own n wtag wown wtag' wown' (result_map_both ws ws' o)
      → split_own n rtag rown rtag' rown' (result_map_both rs rs' o)
  split_own_read (Ok x) c = (l.own_read x c.0, subst (λ t. t < n) (l.same_tag x) c.1)
  split_own_read (Err y) c = (m.own_read y c.0, subst (λ t. n ≤ t) (m.same_tag y) c.1)

  split_own_written : (o : Result X Y) → split_own n rtag rown rtag' rown' (result_map_both rs rs' o)
      → split_own n wtag wown wtag' wown' (result_map_both ws ws' o)
  split_own_written (Ok x) c = (l.own_written x c.0, subst (λ t. t < n) (sym (l.same_tag x)) c.1)
  split_own_written (Err y) c = (m.own_written y c.0, subst (λ t. n ≤ t) (sym (m.same_tag y)) c.1)

  pub split_back : CasesBack (IfSide p q) (result_map_both ws ws') (sides_tag wtag wtag') (split_own n wtag wown wtag' wown') (sides_write w w')
      (result_map_both rs rs') (sides_tag rtag rtag') (split_own n rtag rown rtag' rown') (sides_read r r')
  split_back = record {
    same_tag = split_same;
    own_read = split_own_read;
    own_written = split_own_written;
    parts = sides_reads_back p q ws w rs r ws' w' rs' r' l.parts m.parts;
  }

-- ---- what a write of what stands behind the tag answers

pub split_answers : {X Y V W : Type 0} (first : WriteAnswer X) (p : X → Type 0) (model : X → V) (g : WriteGrammar V) (other : WriteAnswer Y) (q : Y → Type 0)
    (model' : Y → W) (h : WriteGrammar W) → IsAnswer first p model g → IsAnswer other q model' h
    → IsAnswer (sides_answer first other) (IfSide p q) (result_map_both model model') (sides_write g h)
split_answers first p model g other q model' h l m S K put room old new (Ok x) r a =
    cases_answers p model g other q model' h m S K put room old new (Ok x) r (l S K put room old new x r a)
split_answers first p model g other q model' h l m S K put room old new (Err y) r a =
    cases_answers p model g other q model' h m S K put room old new (Err y) r a

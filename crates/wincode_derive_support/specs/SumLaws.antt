-- The laws of one of several cases, from those of each.
use Rattle.std.proofs.Common.{◌≡◌, ◌∙◌, sym, ap, subst, ℕ, ◌+◌, ◌^◌, ◌<◌, ◌≤◌, true, false, List, ◌++◌, length, max, nat_lt, cond, refl, arith}
use Rattle.std.proofs.Common.{length-append, Result, Ok, Err}
use Rattle.std.specs.Result.{result_map_both}
use Rattle.wincode_io.specs.Joins.{IsUnambiguous}
use Rattle.wincode_io.specs.NumberLaws.{length-le}
use Rattle.wincode_io.specs.Numbers.{le}
use Rattle.wincode_io.specs.Writers.{WriterState}
use Rattle.wincode_base.specs.Grammar.{ReadGrammar, WriteGrammar, ReadRefusal, ReadLaws, WriteLaws, ReadsBack, IsReadStatic, IsWriteStatic}
use Rattle.wincode_base.specs.Leaves.{number_read}
use Rattle.wincode_base.specs.LeafLaws.{number_one}
use Rattle.wincode_base.specs.Outcomes.{Wrote, WriteRefused, Stopped, WriteOutcome}
use Rattle.wincode_base.specs.Pairs.{pair_meta}
use Rattle.wincode_base.specs.Sequences.{Then, then_unambiguous}
use Rattle.wincode_base.specs.PairLaws.{le_max_right}
use Rattle.wincode_base.specs.TagLaws.{sides_static, sides_reads_back, counted_reads_back}
use Rattle.wincode_base.specs.Tags.{sides_tag, IfSide, IsSidePart, sides_read, sides_write, counted_read, counted_write}
use Rattle.wincode_base.specs.WriteSequences.{stopped_map, wrote_map, unwritten_map}
use Rattle.wincode_base.specs.declared.error.WriteError.{WriteError}
use Rattle.wincode_base.specs.declared.meta.TypeMeta.{TypeMeta}
use Rattle.wincode_base.specs.declared.meta.TypeMeta.TheVariants.{Static, Dynamic}
use Rattle.wincode.specs.OneText.{IsOneText}
use Rattle.wincode_derive_support.specs.Sums.{WriteAnswer, part_answer, sides_answer, IsAnswer, sides_own, CaseReads, IsTagged, enum_read, enum_write}

-- ---- reading

-- The laws of what stands behind a tag, of which encodings behind one tag alone are told apart.
pub record CaseLaws {V : Type 0} (tag : V → ℕ) (own : V → Type 0) (is_valid : V → Type 0) (part : ReadGrammar V) : Type 0 where
  pub one : (t : ℕ) → IsUnambiguous (CaseReads tag own part.reads t)
  pub reads_valid : (b : List ℕ) (v : V) → part.reads b v → is_valid v
  pub statics : IsReadStatic part.reads part.meta
  pub prealloc : 1 ≤ part.prealloc

-- one case
pub last_case_laws : {V : Type 0} (n : ℕ) {p : V → Type 0} {g : ReadGrammar V} → ReadLaws p g → CaseLaws (λ v. n) (λ v. Unit {0}) p g
last_case_laws n l = record {
  one = λ t a b x y v w i j e. l.one_front a b x y v w i.2 j.2 e;
  reads_valid = l.reads_valid;
  statics = l.statics;
  prealloc =
      l.prealloc;
}

module _ {V W : Type 0} (n : ℕ) {tag : W → ℕ} {own : W → Type 0} {p : V → Type 0} {q : W → Type 0} {g : ReadGrammar V} {h : ReadGrammar W} (l : ReadLaws p g)
    (m : CaseLaws tag own q h) where
  sides_one : (t : ℕ) → IsUnambiguous (CaseReads (sides_tag (λ v. n) tag) (sides_own n tag own) (IsSidePart g.reads h.reads) t)
  sides_one t a b x y (Ok v) (Ok w) i j e = let r = l.one_front a b x y v w i.2 j.2 e in (r.0, ap (λ u. Ok u) r.1)
  sides_one t a b x y (Ok v) (Err w) i j e = absurd (j.1.1 (j.0 ∙ sym i.0))
  sides_one t a b x y (Err v) (Ok w) i j e = absurd (i.1.1 (i.0 ∙ sym j.0))
  sides_one t a b x y (Err v) (Err w) i j e = let r = m.one t a b x y v w (i.0, i.1.0, i.2) (j.0, j.1.0, j.2) e in (r.0, ap (λ u. Err u) r.1)

  sides_valid : (b : List ℕ) (r : Result V W) → IsSidePart g.reads h.reads b r → IfSide p q r
  sides_valid b (Ok v) r = l.reads_valid b v r
  sides_valid b (Err w) r = m.reads_valid b w r

  -- a case before others
  pub case_laws : CaseLaws (sides_tag (λ v. n) tag) (sides_own n tag own) (IfSide p q) (sides_read g h)
  case_laws = record {
    one = sides_one;
    reads_valid = sides_valid;
    statics = sides_static g h g.meta h.meta l.statics m.statics;
    prealloc = let a = l.prealloc in omega arith;
  }

-- counted otherwise against a limit
pub counted_case_laws : (n : ℕ) {V : Type 0} {tag : V → ℕ} {own : V → Type 0} {p : V → Type 0} {g : ReadGrammar V} → CaseLaws tag own p g
    → CaseLaws tag own p (counted_read (max n 1) g)
counted_case_laws n l = record { one = l.one; reads_valid = l.reads_valid; statics = l.statics; prealloc = le_max_right n 1 }

enum_static : {V : Type 0} (k : ℕ) (tag : V → ℕ) (own : V → Type 0) (part : ReadGrammar V) (m : TypeMeta) → IsReadStatic part.reads m
    → IsReadStatic (Then (number_read k true).reads (CaseReads tag own part.reads)) (pair_meta (Static k true) m)
enum_static k tag own part Dynamic h = tt
enum_static {V} k tag own part (Static s z) h =
    elim (nat_lt (k + s) (2 ^ 64)) as (λ t. IsReadStatic {V = V} (Then (number_read k true).reads (CaseReads tag own part.reads))
    (cond t (Static (k + s) false) Dynamic)) [
      | true ↦ (
        λ b v r. ap length r.joins ∙ length-append r.x r.y ∙ ap (λ n. n + length r.y) (ap length r.one.1 ∙ length-le k r.before)
            ∙ ap (λ n. k + n) (h.0 r.y v r.two.2),
        λ z. absurd (cc z),
      )
      | false ↦ tt
    ]

-- a tag, and then what it names
pub enum_read_laws : {V : Type 0} (k : ℕ) {tag : V → ℕ} {own : V → Type 0} {p : V → Type 0} {part : ReadGrammar V} {refused : ℕ → ReadRefusal}
    → CaseLaws tag own p part → ReadLaws p (enum_read k tag own part refused)
enum_read_laws k {tag = tag} {own = own} {part = part} l = record {
  one_front = λ a b x y v w i j e. then_unambiguous (number_read k true).reads (CaseReads tag own part.reads) (number_one k true) l.one a b x y v w i j e;
  reads_valid = λ b v r. l.reads_valid r.y v r.two.2;
  statics = enum_static k tag own part part.meta l.statics;
  prealloc = l.prealloc;
}

-- of one value, tag and part are the same
pub enum_one_text : {V : Type 0} (k : ℕ) {tag : V → ℕ} {own : V → Type 0} {part : ReadGrammar V} {refused : ℕ → ReadRefusal} → IsOneText part
    → IsOneText (enum_read k tag own part refused)
enum_one_text k one = record {
  same = λ a b v p q.
      p.joins ∙ ap (λ t. t ++ p.y) (p.one.1 ∙ ap (le k) (sym p.two.0 ∙ q.two.0) ∙ sym q.one.1) ∙ ap (λ t. q.x ++ t) (one.same p.y q.y v p.two.2 q.two.2)
      ∙ sym q.joins;
}

-- ---- writing

enum_write_static : {X V : Type 0} (k : ℕ) (tag : V → ℕ) (own : V → Type 0) (p : X → Type 0) (model : X → V) (part : WriteGrammar V) (m : TypeMeta)
    → IsWriteStatic p model part.can part.size m
    → IsWriteStatic (λ x. IsTagged k tag own (model x) × p x) model (enum_write k tag own part).can (enum_write k tag own part).size
    (pair_meta (Static k true) m)
enum_write_static k tag own p model part Dynamic h = tt
enum_write_static k tag own p model part (Static s z) h =
    elim (nat_lt (k + s) (2 ^ 64)) as (λ t. IsWriteStatic (λ x. IsTagged k tag own (model x) × p x) model (enum_write k tag own part).can
    (enum_write k tag own part).size (cond t (Static (k + s) false) Dynamic))
    [ true ↦ (λ x c. (c.0, h.0 x c.1), λ v c. ap (λ n. k + n) (h.1 v c.1)) | false ↦ tt ]

pub enum_write_laws : {X V : Type 0} (k : ℕ) (tag : V → ℕ) (own : V → Type 0) {p : X → Type 0} {model : X → V} {part : WriteGrammar V} → WriteLaws p model part
    → WriteLaws (λ x. IsTagged k tag own (model x) × p x) model (enum_write k tag own part)
enum_write_laws k tag own {p = p} {model = model} {part = part} l = record {
  has_encoding = λ v c. let a = l.has_encoding v c.1 in (le k (tag v) ++ a.0, (c.0, (a.0, a.1, refl)));
  encoding_can = λ v b t. (t.0, l.encoding_can v t.1.0 t.1.1);
  encoding_size = λ v b t. let r = t.1 in ap length r.2 ∙ length-append (le k (tag v)) r.0 ∙ ap (λ n. n + length r.0) (length-le k (tag v))
      ∙ ap (λ n. k + n) (l.encoding_size v r.0 r.1);
  can_fit = λ v f. (f.0, l.can_fit v f.1);
  statics = enum_write_static k tag own p model part part.meta l.statics;
}

-- ---- what is written reads back

-- Writing and reading see the same tag of a value, and what stands behind it reads back.
pub record CasesBack {X V W : Type 0} (is_valid : X → Type 0) (ws : X → W) (wtag : W → ℕ) (wown : W → Type 0) (w : WriteGrammar W) (rs : X → V) (rtag : V → ℕ)
    (rown : V → Type 0) (r : ReadGrammar V) : Type 0 where
  pub same_tag : (x : X) → wtag (ws x) ≡ rtag (rs x)
  pub own_read : (x : X) → wown (ws x) → rown (rs x)
  pub own_written : (x : X) → rown (rs x) → wown (ws x)
  pub parts : ReadsBack is_valid ws w rs r

pub last_back : {X V W : Type 0} (n : ℕ) {is_valid : X → Type 0} {ws : X → W} {w : WriteGrammar W} {rs : X → V} {r : ReadGrammar V}
    → ReadsBack is_valid ws w rs r → CasesBack is_valid ws (λ v. n) (λ v. Unit {0}) w rs (λ v. n) (λ v. Unit {0}) r
last_back n l = record { same_tag = λ x. refl; own_read = λ x o. o; own_written = λ x o. o; parts = l }

module _ {X Y V V' W W' : Type 0} (n : ℕ) {p : X → Type 0} {q : Y → Type 0} {ws : X → V'} {w : WriteGrammar V'} {rs : X → V} {r : ReadGrammar V} {ws' : Y → W'}
    {wtag : W' → ℕ} {wown : W' → Type 0} {w' : WriteGrammar W'} {rs' : Y → W} {rtag : W → ℕ} {rown : W → Type 0} {r' : ReadGrammar W}
    (l : ReadsBack p ws w rs r) (m : CasesBack q ws' wtag wown w' rs' rtag rown r') where
  sides_same : (o : Result X Y) → sides_tag {V = V'} (λ v. n) wtag (result_map_both ws ws' o) ≡ sides_tag {V = V} (λ v. n) rtag (result_map_both rs rs' o)
  sides_same (Ok x) = refl
  sides_same (Err y) = m.same_tag y

  sides_own_read : (o : Result X Y) → sides_own {V = V'} n wtag wown (result_map_both ws ws' o) → sides_own {V = V} n rtag rown (result_map_both rs rs' o)
  sides_own_read (Ok x) c = tt
  sides_own_read (Err y) c = (m.own_read y c.0, λ e. c.1 (m.same_tag y ∙ e))

  sides_own_written : (o : Result X Y) → sides_own {V = V} n rtag rown (result_map_both rs rs' o) → sides_own {V = V'} n wtag wown (result_map_both ws ws' o)
  sides_own_written (Ok x) c = tt
  sides_own_written (Err y) c = (m.own_written y c.0, λ e. c.1 (sym (m.same_tag y) ∙ e))

  pub cases_back : CasesBack (IfSide p q) (result_map_both ws ws') (sides_tag (λ v. n) wtag) (sides_own n wtag wown) (sides_write w w')
      (result_map_both rs rs') (sides_tag (λ v. n) rtag) (sides_own n rtag rown) (sides_read r r')
  cases_back = record {
    same_tag = sides_same;
    own_read = sides_own_read;
    own_written = sides_own_written;
    parts =
        sides_reads_back p q ws w rs r ws' w' rs' r' l m.parts;
  }

pub counted_back : (n : ℕ) {X V W : Type 0} {p : X → Type 0} {ws : X → W} {wtag : W → ℕ} {wown : W → Type 0} {w : WriteGrammar W} {rs : X → V} {rtag : V → ℕ}
    {rown : V → Type 0} {r : ReadGrammar V}
    → CasesBack p ws wtag wown w rs rtag rown r → CasesBack p ws wtag wown (counted_write n w) rs rtag rown (counted_read n r)
counted_back n l = record { same_tag = l.same_tag; own_read = l.own_read; own_written = l.own_written; parts = counted_reads_back n l.parts }

pub counted_one_text : (n : ℕ) {V : Type 0} {g : ReadGrammar V} → IsOneText g → IsOneText (counted_read n g)
counted_one_text n l = record { same = l.same }

pub enum_reads_back : {X V W : Type 0} (k : ℕ) {p : X → Type 0} {ws : X → W} {wtag : W → ℕ} {wown : W → Type 0} {w : WriteGrammar W} {rs : X → V}
    {rtag : V → ℕ} {rown : V → Type 0} {r : ReadGrammar V} {refused : ℕ → ReadRefusal}
    → CasesBack p ws wtag wown w rs rtag rown r → ReadsBack (λ x. IsTagged k wtag wown (ws x) × p x) ws (enum_write k wtag wown w) rs
    (enum_read k rtag rown r refused)
enum_reads_back k {ws = ws} {wtag = wtag} {rs = rs} {rtag = rtag} l = record {
  back = λ x b c t f. record {
    before = rtag (rs x);
    x = le k (rtag (rs x));
    y = t.1.0;
    one = (subst (λ n. n < 256 ^ k) (l.same_tag x) f.0.1, refl);
    two = (refl, l.own_read x f.0.0, l.parts.back x t.1.0 c.1 t.1.1 f.1);
    joins = t.1.2 ∙ ap (λ n. le k n ++ t.1.0) (l.same_tag x);
  };
  within = λ b x t. ((l.own_written x t.two.1, subst (λ n. n < 256 ^ k) (sym (l.same_tag x ∙ t.two.0)) t.one.0), l.parts.within t.y x t.two.2);
  same_prealloc = l.parts.same_prealloc;
  same_meta = ap (λ m. pair_meta (Static k true) m) l.parts.same_meta;
}

-- ---- what a write of what stands behind the tag answers

answer_map : {S K V W : Type 0} {put : S → List ℕ → S} {room : S → ℕ} (g : WriteGrammar V) (h : WriteGrammar W) {old new : WriterState put room K} (v : V)
    (w : W) (p : Type 0) → (Wrote g old new v → Wrote h old new w) → ((e : WriteError) → WriteRefused g old new v e → WriteRefused h old new w e)
    → ((e : WriteError) → Stopped g old new v e → Stopped h old new w e) → (r : Result (Unit {0}) WriteError) → WriteOutcome g old new v p r
    → WriteOutcome h old new w p r
answer_map g h v w p m n s (Ok x) o = record { ok = m o.ok; value = o.value; refused = tt }
answer_map g h v w p m n s (Err e) o = record { ok = tt; value = tt; refused = (n e o.refused.0, s e o.refused.1) }

pub last_answers : {X V : Type 0} (is_valid : X → Type 0) (model : X → V) (g : WriteGrammar V) → IsAnswer (part_answer is_valid model g) is_valid model g
last_answers is_valid model g S K put room old new x r a = a

pub cases_answers : {X Y V W : Type 0} (p : X → Type 0) (model : X → V) (g : WriteGrammar V) (other : WriteAnswer Y) (q : Y → Type 0) (model' : Y → W)
    (h : WriteGrammar W) → IsAnswer other q model' h
    → IsAnswer (sides_answer (part_answer p model g) other) (IfSide p q) (result_map_both model model') (sides_write g h)
cases_answers p model g other q model' h m S K put room old new (Ok x) r a =
    answer_map g (sides_write g h) (model x) (Ok (model x)) (p x) (λ w. wrote_map g (sides_write g h) (model x) (Ok (model x)) (λ c. c) refl (λ b t. t) w)
    (λ e u. unwritten_map g (sides_write g h) (model x) (Ok (model x)) (λ c. c) refl (λ b t. t) u)
    (λ e s. stopped_map g (sides_write g h) (model x) (Ok (model x)) (λ b t. t) s) r a
cases_answers p model g other q model' h m S K put room old new (Err y) r a =
    answer_map h (sides_write g h) (model' y) (Err (model' y)) (q y)
    (λ w. wrote_map h (sides_write g h) (model' y) (Err (model' y)) (λ c. c) refl (λ b t. t) w)
    (λ e u. unwritten_map h (sides_write g h) (model' y) (Err (model' y)) (λ c. c) refl (λ b t. t) u)
    (λ e s. stopped_map h (sides_write g h) (model' y) (Err (model' y)) (λ b t. t) s) r (m S K put room old new y r a)

pub counted_answers : {X V : Type 0} (n : ℕ) (answer : WriteAnswer X) (p : X → Type 0) (model : X → V) (g : WriteGrammar V) → IsAnswer answer p model g
    → IsAnswer answer p model (counted_write n g)
counted_answers n answer p model g m S K put room old new x r a =
    answer_map g (counted_write n g) (model x) (model x) (p x) (λ w. wrote_map g (counted_write n g) (model x) (model x) (λ c. c) refl (λ b t. t) w)
    (λ e u. unwritten_map g (counted_write n g) (model x) (model x) (λ c. c) refl (λ b t. t) u)
    (λ e s. stopped_map g (counted_write n g) (model x) (model x) (λ b t. t) s) r (m S K put room old new x r a)

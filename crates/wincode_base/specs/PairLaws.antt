-- The laws of two parts, from those of each.
use Rattle.std.proofs.Common.{◌≡◌, ◌∙◌, sym, ap, subst, ℕ, ◌+◌, ◌^◌, ◌≤◌, ◌&&◌, Bool, true, false, List, ◌++◌, length, min, max, nat_lt, cond, refl}
use Rattle.std.proofs.Common.{arith, length-append}
use Rattle.wincode_io.specs.Readers.{ReaderState}
use Rattle.wincode_base.specs.Grammar.{ReadGrammar, WriteGrammar, ReadLaws, WriteLaws, ReadsBack, IsReadStatic, IsWriteStatic}
use Rattle.wincode_base.specs.InWindow.{windowed_write, windowed_read}
use Rattle.wincode_base.specs.Pairs.{pair_meta, pair_read, pair_write}
use Rattle.wincode_base.specs.Sequences.{Then, then_unambiguous, gives_map, refuses_map, then_gives, then_first, then_second}
use Rattle.wincode_base.specs.Outcomes.{Gives, ReadRefused}
use Rattle.wincode_base.specs.declared.meta.TypeMeta.{TypeMeta}
use Rattle.wincode_base.specs.declared.meta.TypeMeta.TheVariants.{Static, Dynamic}
use Rattle.wincode_base.specs.declared.error.ReadError.{ReadError}
use Rattle.wincode_io.specs.Joins.{IsUnambiguous}
use Rattle.wincode_io.specs.Writers.{byte_limit}

pub pair_then : {V W : Type 0} (g : ReadGrammar V) (h : ReadGrammar W) (b : List ℕ) (v : V × W) → (pair_read g h).reads b v
    → Then g.reads (λ u b w. (w.0 ≡ u) × h.reads b w.1) b v
pair_then g h b v r = record { before = v.0; x = r.0; y = r.1; one = r.2; two = (refl, r.3); joins = r.4 }

pair_rest : {V W : Type 0} (h : ReadGrammar W) → IsUnambiguous h.reads → (u : V) → IsUnambiguous {V = V × W} (λ b w. (w.0 ≡ u) × h.reads b w.1)
pair_rest h one u a b x y v w p q e = let r = one a b x y v.1 w.1 p.1 q.1 e in (r.0, ap (λ t. (t, v.1)) (p.0 ∙ sym q.0) ∙ ap (λ t. (w.0, t)) r.1)

pub pair_static : {V W : Type 0} (g : ReadGrammar V) (h : ReadGrammar W) (m n : TypeMeta) → IsReadStatic g.reads m → IsReadStatic h.reads n
    → IsReadStatic (pair_read g h).reads (pair_meta m n)
pair_static g h Dynamic n p q = tt
pair_static g h (Static a x) Dynamic p q = tt
pair_static {V} {W} g h (Static a x) (Static b y) p q =
    elim (nat_lt (a + b) (2 ^ 64)) as (λ t. IsReadStatic {V = V × W} (pair_read g h).reads (cond t (Static (a + b) false) Dynamic)) [
      | true ↦ (
        λ t v r. ap length r.4 ∙ length-append r.0 r.1 ∙ ap (λ k. k + length r.1) (p.0 r.0 v.0 r.2) ∙ ap (λ k. a + k) (q.0 r.1 v.1 r.3),
        λ z. absurd (cc z),
      )
      | false ↦ tt
    ]

pub pair_read_laws : {V W : Type 0} {p : V → Type 0} {q : W → Type 0} {g : ReadGrammar V} {h : ReadGrammar W} → ReadLaws p g → ReadLaws q h
    → ReadLaws (λ v. p v.0 × q v.1) (pair_read g h)
pair_read_laws {g = g} {h = h'} l m = record {
  one_front = λ a b x y v w r s e. let h = then_unambiguous g.reads (λ u b w. (w.0 ≡ u) × h'.reads b w.1) l.one_front (pair_rest h' m.one_front) a b x y v w
      (pair_then g h' a v r) (pair_then g h' b w s) e in h;
  reads_valid = λ b v r. (l.reads_valid r.0 v.0 r.2, m.reads_valid r.1 v.1 r.3);
  statics = pair_static g h' g.meta h'.meta l.statics m.statics;
  prealloc = let a = l.prealloc in omega arith;
}

pub le_max_left : (m n : ℕ) → m ≤ max m n
le_max_left m n = omega arith

pub le_max_right : (m n : ℕ) → n ≤ max m n
le_max_right m n = omega arith

pub both_left : (a b : Bool) → a ≡ false → (a && b) ≡ false
both_left a b e = rw e

pub both_right : (a b : Bool) → b ≡ false → (a && b) ≡ false
both_right false b e = refl
both_right true b e = e

module _ {V W : Type 0} (g : ReadGrammar V) (h : ReadGrammar W) where
  abbrev pair_second_reads : V → List ℕ → V × W → Type 0
  pair_second_reads u b w = (w.0 ≡ u) × h.reads b w.1

  gives_pair : (old mid new : ReaderState) (v : V) (w : W) → Gives h.reads mid new w → Gives (pair_second_reads v) mid new (v, w)
  gives_pair old mid new v w s = gives_map h.reads (pair_second_reads v) mid new w (v, w) (λ b r. (refl, r)) s

  pub pair_gives : (old mid new : ReaderState) (v : V) (w : W) → Gives g.reads old mid v → Gives h.reads mid new w → Gives (pair_read g h).reads old new (v, w)
  pair_gives old mid new v w r s =
      gives_map (Then g.reads pair_second_reads) (pair_read g h).reads old new (v, w) (v, w)
      (λ b t. (t.x, t.y, subst (λ u. g.reads t.x u) (sym t.two.0) t.one, t.two.1, t.joins))
      (then_gives g.reads pair_second_reads old mid new v (v, w) r (gives_pair old mid new v w s))

  pub pair_first : (old new : ReaderState) (e : ReadError) → ReadRefused g.reads g.borrow g.takes_no_memory old new e
      → ReadRefused (pair_read g h).reads (pair_read g h).borrow (pair_read g h).takes_no_memory old new e
  pair_first old new e r =
      refuses_map (Then g.reads pair_second_reads) (pair_read g h).reads (pair_read g h).borrow (pair_read g h).takes_no_memory old new e
      (λ b v t. (v, pair_then g h b v t))
      (then_first g.reads pair_second_reads g.borrow (max g.borrow h.borrow) g.takes_no_memory (g.takes_no_memory && h.takes_no_memory) old new e
      (le_max_left g.borrow h.borrow) (both_left g.takes_no_memory h.takes_no_memory) r)

  pub pair_second : IsUnambiguous g.reads → (old mid new : ReaderState) (v : V) (e : ReadError) → Gives g.reads old mid v
      → ReadRefused h.reads h.borrow h.takes_no_memory mid new e
      → ReadRefused (pair_read g h).reads (pair_read g h).borrow (pair_read g h).takes_no_memory old new e
  pair_second one old mid new v e r s =
      refuses_map (Then g.reads pair_second_reads) (pair_read g h).reads (pair_read g h).borrow (pair_read g h).takes_no_memory old new e
      (λ b w t. (w, pair_then g h b w t))
      (then_second g.reads pair_second_reads one h.borrow (max g.borrow h.borrow) h.takes_no_memory (g.takes_no_memory && h.takes_no_memory) old mid new v e
      (le_max_right g.borrow h.borrow) (both_right g.takes_no_memory h.takes_no_memory) r
      (refuses_map h.reads (pair_second_reads v) h.borrow h.takes_no_memory mid new e (λ b w t. (w.1, t.1)) s))

-- ---- writing

pair_write_size : {X Y V W : Type 0} (p : X → Type 0) (q : Y → Type 0) (model : X → V) (model' : Y → W) (g : WriteGrammar V) (h : WriteGrammar W)
    (m n : TypeMeta) → IsWriteStatic p model g.can g.size m → IsWriteStatic q model' h.can h.size n
    → IsWriteStatic {X = X × Y} (λ t. p t.0 × q t.1) (λ t. (model t.0, model' t.1)) (pair_write g h).can (pair_write g h).size (pair_meta m n)
pair_write_size p q model model' g h Dynamic n l m = tt
pair_write_size p q model model' g h (Static a x) Dynamic l m = tt
pair_write_size {X} {Y} p q model model' g h (Static a x) (Static b y) l m =
    elim (nat_lt (a + b) (2 ^ 64)) as (λ t. IsWriteStatic {X = X × Y} (λ t. p t.0 × q t.1) (λ t. (model t.0, model' t.1)) (pair_write g h).can
    (pair_write g h).size (cond t (Static (a + b) false) Dynamic))
    [ true ↦ (λ t c. (l.0 t.0 c.0, m.0 t.1 c.1), λ v c. ap (λ k. k + h.size v.1) (l.1 v.0 c.0) ∙ ap (λ k. a + k) (m.1 v.1 c.1)) | false ↦ tt ]

pub pair_write_laws : {X Y V W : Type 0} {p : X → Type 0} {q : Y → Type 0} {model : X → V} {model' : Y → W} {g : WriteGrammar V} {h : WriteGrammar W}
    → WriteLaws p model g → WriteLaws q model' h
    → WriteLaws {X = X × Y} (λ t. p t.0 × q t.1) (λ t. (model t.0, model' t.1)) (pair_write g h)
pair_write_laws {p = p} {q = q} {model = model} {model' = model'} {g = g} {h = h} l m = record {
  has_encoding = λ v c. let a = l.has_encoding v.0 c.0 in let b = m.has_encoding v.1 c.1 in (a.0 ++ b.0, (a.0, b.0, a.1, b.1, refl));
  encoding_can = λ v b r. (l.encoding_can v.0 r.0 r.2, m.encoding_can v.1 r.1 r.3);
  encoding_size = λ v b r. ap length r.4 ∙ length-append r.0 r.1 ∙ ap (λ n. n + length r.1) (l.encoding_size v.0 r.0 r.2)
      ∙ ap (λ n. g.size v.0 + n) (m.encoding_size v.1 r.1 r.3);
  can_fit = λ v f. (l.can_fit v.0 f.0, m.can_fit v.1 f.1);
  statics = pair_write_size p q model model' g h g.meta h.meta l.statics m.statics;
}

pub pair_reads_back : {X Y V V' W W' : Type 0} {p : X → Type 0} {q : Y → Type 0} {ws : X → V'} {w : WriteGrammar V'} {rs : X → V} {r : ReadGrammar V}
    {ws' : Y → W'} {w' : WriteGrammar W'} {rs' : Y → W} {r' : ReadGrammar W}
    → ReadsBack p ws w rs r → ReadsBack q ws' w' rs' r' → ReadsBack {X = X × Y} (λ t. p t.0 × q t.1) (λ t. (ws t.0, ws' t.1)) (pair_write w w')
    (λ t. (rs t.0, rs' t.1)) (pair_read r r')
pair_reads_back {w = w} {r = r} {w' = w'} {r' = r'} a b = record {
  back = λ t encoding c x f. (x.0, x.1, a.back t.0 x.0 c.0 x.2 f.0, b.back t.1 x.1 c.1 x.3 f.1, x.4);
  within = λ encoding t x. (a.within x.0 t.0 x.2, b.within x.1 t.1 x.3);
  same_prealloc = ap (λ n. min (n + w'.prealloc) byte_limit) a.same_prealloc ∙ ap (λ n. min (r.prealloc + n) byte_limit) b.same_prealloc;
  same_meta = ap (λ m. pair_meta m w'.meta) a.same_meta ∙ ap (λ m. pair_meta r.meta m) b.same_meta;
}

-- ---- through a window

pub windowed_write_laws : {X V : Type 0} {p : X → Type 0} {model : X → V} {g : WriteGrammar V} → WriteLaws p model g → WriteLaws p model (windowed_write g)
windowed_write_laws l = record {
  has_encoding = l.has_encoding;
  encoding_can = l.encoding_can;
  encoding_size = l.encoding_size;
  can_fit = l.can_fit;
  statics = l.statics;
}

pub windowed_read_laws : {V : Type 0} {p : V → Type 0} {g : ReadGrammar V} → ReadLaws p g → ReadLaws p (windowed_read g)
windowed_read_laws l = record { one_front = l.one_front; reads_valid = l.reads_valid; statics = l.statics; prealloc = l.prealloc }

pub windowed_reads_back : {X V W : Type 0} {p : X → Type 0} {ws : X → W} {w : WriteGrammar W} {rs : X → V} {r : ReadGrammar V} → ReadsBack p ws w rs r
    → ReadsBack p ws (windowed_write w) rs (windowed_read r)
windowed_reads_back l = record { back = l.back; within = l.within; same_prealloc = l.same_prealloc; same_meta = l.same_meta }

-- ---- a struct, which is written and read as its fields

statics_by : {X Y V : Type 0} (fields : X → Y) (p : Y → Type 0) (model : Y → V) (can : V → Type 0) (size : V → ℕ) (m : TypeMeta)
    → IsWriteStatic p model can size m → IsWriteStatic (λ x. p (fields x)) (λ x. model (fields x)) can size m
statics_by fields p model can size Dynamic l = tt
statics_by fields p model can size (Static s z) l = (λ x c. l.0 (fields x) c, l.1)

pub write_laws_by : {X Y V : Type 0} (fields : X → Y) {p : Y → Type 0} {model : Y → V} {g : WriteGrammar V} → WriteLaws p model g
    → WriteLaws (λ x. p (fields x)) (λ x. model (fields x)) g
write_laws_by fields {p = p} {model = model} {g = g} l = record {
  has_encoding = l.has_encoding;
  encoding_can = l.encoding_can;
  encoding_size = l.encoding_size;
  can_fit = l.can_fit;
  statics = statics_by fields p model g.can g.size g.meta l.statics;
}

pub reads_back_by : {X Y V W : Type 0} (fields : X → Y) {p : Y → Type 0} {ws : Y → W} {w : WriteGrammar W} {rs : Y → V} {r : ReadGrammar V}
    → ReadsBack p ws w rs r → ReadsBack (λ x. p (fields x)) (λ x. ws (fields x)) w (λ x. rs (fields x)) r
reads_back_by fields l = record {
  back = λ x b c t f. l.back (fields x) b c t f;
  within = λ b x t. l.within b (fields x) t;
  same_prealloc = l.same_prealloc;
  same_meta = l.same_meta;
}

-- The laws of what is held in memory of its own.
use Rattle.std.proofs.Common.{ap, ℕ, List, refl, arith}
use Rattle.wincode_base.specs.Grammar.{ReadGrammar, WriteGrammar, ReadLaws, WriteLaws, ReadsBack, IsReadStatic}
use Rattle.wincode_base.specs.Strings.{reference_meta}
use Rattle.wincode_base.specs.StringLaws.{reference_write_laws}
use Rattle.wincode_base.specs.Boxed.{boxed_read, boxed_write}
use Rattle.wincode_base.specs.declared.meta.TypeMeta.{TypeMeta}
use Rattle.wincode_base.specs.declared.meta.TypeMeta.TheVariants.{Static, Dynamic}

boxed_static : {V : Type 0} (reads : List ℕ → V → Type 0) (m : TypeMeta) → IsReadStatic reads m → IsReadStatic reads (reference_meta m)
boxed_static reads Dynamic h = tt
boxed_static reads (Static s z) h = (h.0, λ t. absurd (cc t))

pub boxed_read_laws : {V : Type 0} (p : V → Type 0) (g : ReadGrammar V) → ReadLaws p g → ReadLaws p (boxed_read g)
boxed_read_laws p g l = record { one_front = l.one_front; reads_valid = l.reads_valid; statics = boxed_static g.reads g.meta l.statics; prealloc = omega arith }

-- `value` is what a box holds
pub boxed_write_laws : {X Y V : Type 0} (is_valid : X → Type 0) (model : X → V) (value : Y → X) (g : WriteGrammar V) → WriteLaws is_valid model g
    → WriteLaws (λ y. is_valid (value y)) (λ y. model (value y)) (boxed_write g)
boxed_write_laws is_valid model value g l =
    let r = reference_write_laws is_valid model value g l in
    record { has_encoding = r.has_encoding; encoding_can = r.encoding_can; encoding_size = r.encoding_size; can_fit = r.can_fit; statics = r.statics }

pub boxed_reads_back : {X Y V W : Type 0} (value : Y → X) (p : X → Type 0) (ws : X → W) (w : WriteGrammar W) (rs : X → V) (r : ReadGrammar V)
    → ReadsBack p ws w rs r → ReadsBack (λ y. p (value y)) (λ y. ws (value y)) (boxed_write w) (λ y. rs (value y)) (boxed_read r)
boxed_reads_back value p ws w rs r l = record {
  back = λ y b c t f. l.back (value y) b c t f;
  within = λ b y t. l.within b (value y) t;
  same_prealloc = refl;
  same_meta = ap reference_meta l.same_meta;
}

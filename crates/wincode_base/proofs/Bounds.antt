-- Reading and writing an end of a range.
use Rattle.std.specs.declared.ops.Bound.{Bound}
use Rattle.std.specs.declared.ops.Bound.TheVariants.{Included, Excluded, Unbounded}
use Rattle.std.proofs.Common.{◌≡◌, ◌∙◌, sym, ap, ℕ, ◌≤◌, true, List, [], ◌++◌, refl, arith, append-nil, inl}
use Rattle.wincode_io.specs.Readers.{ReaderState}
use Rattle.wincode_io.specs.Numbers.{le}
use Rattle.wincode_io.specs.Writers.{WriterState, WriterLaws}
use Rattle.wincode_base.specs.Bounds.{bound_tag, IsBoundPart, bound_part_read, bound_read, IfBound, bound_size, BoundWriteRefused}
use Rattle.wincode_base.specs.Bounds.{bound_part_write, bound_write}
use Rattle.wincode_base.specs.BoundLaws.{bound_small, bound_part_laws}
use Rattle.wincode_base.specs.Grammar.{ReadGrammar, WriteGrammar, WriteLaws}
use Rattle.wincode_base.specs.Leaves.{number_read, number_write}
use Rattle.wincode_base.specs.Outcomes.{Gives, ReadRefused, Wrote, WriteRefused, Stopped}
use Rattle.wincode_base.specs.Sequences.{gives_map, refuses_map}
use Rattle.wincode_base.specs.TagLaws.{IsCase, tagged_gives, case_refused, bad_tag}
use Rattle.wincode_base.specs.WriteSequences.{stopped_map, wrote_map, unwritten_map}
use Rattle.wincode_base.specs.declared.error.ReadError.{ReadError}
use Rattle.wincode_base.specs.declared.error.ReadError.TheVariants as reading
use Rattle.wincode_base.specs.declared.error.WriteError.{WriteError}
use Rattle.wincode_base.proofs.Tags.{tagged_wrote, tag_unwritten, part_unwritten, tag_halted, part_halted}

-- ---- reading

module _ {V : Type 0} (g : ReadGrammar V) (old mid new : ReaderState) (t : ℕ) (r : Gives (number_read 4 true).reads old mid t) where
  pub unbounded_gives : t ≡ 0 → Gives (bound_read g).reads old mid Unbounded
  unbounded_gives i = gives_map (number_read 4 true).reads (bound_read g).reads old mid t Unbounded
      (λ b w. ([], refl, w.1 ∙ ap (le 4) i ∙ sym (append-nil (le 4 0)))) r

  pub included_gives : (v : V) → t ≡ 1 → Gives g.reads mid new v → Gives (bound_read g).reads old new (Included v)
  included_gives v i s = tagged_gives 4 bound_tag bound_small (bound_part_read g) old mid new t (Included v) (sym i) r
      (gives_map g.reads (IsBoundPart g.reads) mid new v (Included v) (λ b w. w) s)

  pub excluded_gives : (v : V) → t ≡ 2 → Gives g.reads mid new v → Gives (bound_read g).reads old new (Excluded v)
  excluded_gives v i s = tagged_gives 4 bound_tag bound_small (bound_part_read g) old mid new t (Excluded v) (sym i) r
      (gives_map g.reads (IsBoundPart g.reads) mid new v (Excluded v) (λ b w. w) s)

  of_value : 1 ≤ t → (b : List ℕ) (o : Bound V) → IsCase bound_tag (IsBoundPart g.reads) t b o → (v : V) × g.reads b v
  of_value l b Unbounded k = absurd (omega (arith, k.0, l))
  of_value l b (Included v) k = (v, k.1)
  of_value l b (Excluded v) k = (v, k.1)

  pub value_refused : 1 ≤ t → (e : ReadError) → ReadRefused g.reads g.borrow g.takes_no_memory mid new e
      → ReadRefused (bound_read g).reads g.borrow g.takes_no_memory old new e
  value_refused l e u =
      case_refused 4 bound_tag bound_small (bound_part_read g) g.borrow g.takes_no_memory old mid new t e (omega arith) (λ x. x) r
      (refuses_map g.reads (IsCase bound_tag (IsBoundPart g.reads) t) g.borrow g.takes_no_memory mid new e (of_value l) u)

  no_bound : 3 ≤ t → (o : Bound V) → bound_tag o ≡ t → ⊥
  no_bound l Unbounded e = omega (arith, e, l)
  no_bound l (Included v) e = omega (arith, e, l)
  no_bound l (Excluded v) e = omega (arith, e, l)

  pub bound_bad : (n : ℕ) → 3 ≤ t → ReadRefused (bound_read g).reads g.borrow g.takes_no_memory old mid (reading.InvalidTagEncoding n)
  bound_bad n l = bad_tag 4 bound_tag bound_small (bound_part_read g) old mid t n (no_bound l) r

-- ---- writing

unbounded_texts : {V : Type 0} (g : WriteGrammar V) (b : List ℕ) → (number_write 4 true).writes b 0 → (bound_write g).writes b Unbounded
unbounded_texts g b w = ([], refl, w ∙ sym (append-nil (le 4 0)))

module _ {S K : Type 0} {put : S → List ℕ → S} {room : S → ℕ} (laws : WriterLaws put room) where
  module _ {V : Type 0} (g : WriteGrammar V) {old new : WriterState put room K} where
    pub unbounded_wrote : Wrote (number_write 4 true) old new 0 → Wrote (bound_write g) old new Unbounded
    unbounded_wrote r = wrote_map (number_write 4 true) (bound_write g) 0 Unbounded (λ c. tt) (omega arith) (unbounded_texts g) r

    pub unbounded_unwritten : {e : WriteError} → WriteRefused (number_write 4 true) old new 0 e → WriteRefused (bound_write g) old new Unbounded e
    unbounded_unwritten u = unwritten_map (number_write 4 true) (bound_write g) 0 Unbounded (λ c. tt) (omega arith) (unbounded_texts g) u

    pub unbounded_halted : {e : WriteError} → Stopped (number_write 4 true) old new 0 e → Stopped (bound_write g) old new Unbounded e
    unbounded_halted s = stopped_map (number_write 4 true) (bound_write g) 0 Unbounded (λ a r. inl r) s

  module _ {X V : Type 0} {p : X → Type 0} {model : X → V} {g : WriteGrammar V} (l : WriteLaws p model g) {old : WriterState put room K} (o : Bound V) where
    pub bound_tag_unwritten : {new : WriterState put room K} {e : WriteError} → WriteRefused (number_write 4 true) old new (bound_tag o) e
        → WriteRefused (bound_write g) old new o e
    bound_tag_unwritten u = tag_unwritten laws 4 bound_tag (bound_part_write g) (bound_part_laws p model g l) o u

    pub bound_tag_halted : {new : WriterState put room K} {e : WriteError} → Stopped (number_write 4 true) old new (bound_tag o) e
        → Stopped (bound_write g) old new o e
    bound_tag_halted s = tag_halted laws 4 bound_tag (bound_part_write g) (bound_part_laws p model g l) o s

    -- behind the tag: what is written of the value is of the end
    module _ (v : V) {mid new : WriterState put room K} (r : Wrote (number_write 4 true) old mid (bound_tag o)) where
      pub bound_wrote : (g.can v → IfBound g.can o) → bound_size g.size o ≡ g.size v → ((b : List ℕ) → g.writes b v → IsBoundPart g.writes b o)
          → Wrote g mid new v → Wrote (bound_write g) old new o
      bound_wrote can size texts s = tagged_wrote laws 4 bound_tag (bound_part_write g) (bound_part_laws p model g l) o r
          (wrote_map g (bound_part_write g) v o can size texts s)

      pub bound_unwritten : {e : WriteError} → (IfBound g.can o → g.can v) → bound_size g.size o ≡ g.size v
          → ((b : List ℕ) → g.writes b v → IsBoundPart g.writes b o) → WriteRefused g mid new v e → WriteRefused (bound_write g) old new o e
      bound_unwritten can size texts u = part_unwritten laws 4 bound_tag (bound_part_write g) (bound_part_laws p model g l) o r
          (unwritten_map g (bound_part_write g) v o can size texts u)

      pub bound_halted : {e : WriteError} → ((a : List ℕ) → g.refused v (room mid.content) a e → BoundWriteRefused g.refused o (room mid.content) a e)
          → Stopped g mid new v e → Stopped (bound_write g) old new o e
      bound_halted how s = part_halted laws 4 bound_tag (bound_part_write g) (bound_part_laws p model g l) o r
          (stopped_map g (bound_part_write g) v o how s)

-- Reading and writing one of several cases behind its tag.
use Rattle.std.proofs.Common.{◌≡◌, ◌∙◌, sym, ℕ, ◌≤◌, ◌&&◌, Bool, true, false, List, max, refl, arith, inl, inr, Result, Ok, Err}
use Rattle.wincode_io.specs.Readers.{ReaderState}
use Rattle.wincode_io.specs.Writers.{WriterState, WriterLaws}
use Rattle.wincode_base.proofs.Runs.{unfit_unwritten}
use Rattle.wincode_base.proofs.Tags.{tagged_wrote, tag_unwritten, part_unwritten, tag_halted, part_halted}
use Rattle.wincode_base.specs.Grammar.{ReadGrammar, WriteGrammar, WriteLaws, ReadRefusal}
use Rattle.wincode_base.specs.Leaves.{number_read, number_write}
use Rattle.wincode_base.specs.LeafLaws.{number_one}
use Rattle.wincode_base.specs.Outcomes.{Gives, ReadRefused, Accepts, SchemaReadRefused, Wrote, WriteRefused, Stopped, IsOverflow, past_usize, SizeRefused}
use Rattle.wincode_base.specs.PairLaws.{le_max_left, le_max_right, both_left, both_right}
use Rattle.wincode_base.specs.PairSizeLaws.{unsized_first, unsized_second, unsized_part, overflow_unsized, overflow_unfit}
use Rattle.wincode_base.specs.Sequences.{due_map, gives_map, refuses_map, then_gives, then_first, then_second}
use Rattle.wincode_base.specs.TagLaws.{spares}
use Rattle.wincode_base.specs.Tags.{sides_tag, IsSidePart, sides_read, sides_write, tagged_write}
use Rattle.wincode_base.specs.WriteSequences.{nothing_stopped, stopped_map, wrote_map, unwritten_map}
use Rattle.wincode_base.specs.declared.error.ReadError.{ReadError}
use Rattle.wincode_base.specs.declared.error.WriteError.{WriteError}
use Rattle.wincode_derive_support.specs.Sums.{sides_own, CaseReads, case_read, CaseReadRefused, IsTagged, enum_read, enum_write}
use Rattle.wincode_derive_support.specs.SumLaws.{enum_write_laws}

-- ---- reading

pub wider : {V : Type 0} (R : List ℕ → V → Type 0) (borrow borrow' : ℕ) (takes_no_memory takes_no_memory' : Bool) (old new : ReaderState) (e : ReadError) → borrow
    ≤ borrow' → (takes_no_memory ≡ false → takes_no_memory' ≡ false) → ReadRefused R borrow takes_no_memory old new e
    → ReadRefused R borrow' takes_no_memory' old new e
wider R borrow borrow' takes_no_memory takes_no_memory' old new e a s r =
    record {
      kept = r.kept;
      left = r.left;
      place = r.place;
      device = r.device;
      due =
          due_map (Accepts R old) (Accepts R old) borrow borrow' takes_no_memory takes_no_memory' new (λ x. x) a s e r.due;
    }

module _ {V W : Type 0} (n : ℕ) (tag : W → ℕ) (own : W → Type 0) (g : ReadGrammar V) (h : ReadGrammar W) (others : ℕ → ReadRefusal) (t : ℕ)
    (old new : ReaderState) where
  abbrev Whole : List ℕ → Result V W → Type 0
  Whole = CaseReads (sides_tag (λ v. n) tag) (sides_own n tag own) (IsSidePart g.reads h.reads) t

  abbrev whole : ReadGrammar (Result V W)
  whole = case_read (sides_tag (λ v. n) tag) (sides_own n tag own) (sides_read g h) (CaseReadRefused n g others) t

  pub first_gives : (v : V) → t ≡ n → Gives g.reads old new v → Gives Whole old new (Ok v)
  first_gives v e s = gives_map g.reads Whole old new v (Ok v) (λ b r. (sym e, tt, r)) s

  pub other_gives : (w : W) → (t ≡ n → ⊥) → Gives (CaseReads tag own h.reads t) old new w → Gives Whole old new (Err w)
  other_gives w ne s = gives_map (CaseReads tag own h.reads t) Whole old new w (Err w) (λ b r. (r.0, (r.1, λ e. ne (sym r.0 ∙ e)), r.2)) s

  of_first : t ≡ n → (b : List ℕ) (u : Result V W) → Whole b u → (v : V) × g.reads b v
  of_first e b (Ok v) r = (v, r.2)
  of_first e b (Err w) r = absurd (r.1.1 (r.0 ∙ e))

  of_other : (t ≡ n → ⊥) → (b : List ℕ) (u : Result V W) → Whole b u → (w : W) × CaseReads tag own h.reads t b w
  of_other ne b (Ok v) r = absurd (ne (sym r.0))
  of_other ne b (Err w) r = (w, (r.0, r.1.0, r.2))

  pub first_refused : (e : ReadError) → t ≡ n → SchemaReadRefused g old new e → SchemaReadRefused whole old new e
  first_refused e is r = (
    refuses_map g.reads Whole (max g.borrow h.borrow) (g.takes_no_memory && h.takes_no_memory) old new e (of_first is)
        (wider g.reads g.borrow (max g.borrow h.borrow) g.takes_no_memory (g.takes_no_memory && h.takes_no_memory) old new e (le_max_left g.borrow h.borrow)
        (both_left g.takes_no_memory h.takes_no_memory) r.0),
    inl (is, r),
  )

  pub other_refused : (e : ReadError) → (t ≡ n → ⊥) → SchemaReadRefused (case_read tag own h others t) old new e → SchemaReadRefused whole old new e
  other_refused e ne r = (
    refuses_map (CaseReads tag own h.reads t) Whole (max g.borrow h.borrow) (g.takes_no_memory && h.takes_no_memory) old new e (of_other ne)
        (wider (CaseReads tag own h.reads t) h.borrow (max g.borrow h.borrow) h.takes_no_memory (g.takes_no_memory && h.takes_no_memory) old new e
        (le_max_right g.borrow h.borrow) (both_right g.takes_no_memory h.takes_no_memory) r.0),
    inr (ne, r.1),
  )

module _ {V : Type 0} (k : ℕ) (tag : V → ℕ) (own : V → Type 0) (part : ReadGrammar V) (refused : ℕ → ReadRefusal) where
  abbrev Tag : List ℕ → ℕ → Type 0
  Tag = (number_read k true).reads

  abbrev Behind : ℕ → List ℕ → V → Type 0
  Behind = CaseReads tag own part.reads

  pub enum_gives : (old mid new : ReaderState) (t : ℕ) (v : V) → Gives Tag old mid t → Gives (Behind t) mid new v
      → Gives (enum_read k tag own part refused).reads old new v
  enum_gives old mid new t v r s = then_gives Tag Behind old mid new t v r s

  pub enum_tag_refused : (old new : ReaderState) (e : ReadError) → SchemaReadRefused (number_read k true) old new e
      → SchemaReadRefused (enum_read k tag own part refused) old new e
  enum_tag_refused old new e r = (
    then_first Tag Behind 0 part.borrow true part.takes_no_memory old new e (omega arith) (spares part.takes_no_memory) r.0,
    inl r,
  )

  pub enum_case_refused : (old mid new : ReaderState) (t : ℕ) (e : ReadError) → Gives Tag old mid t
      → SchemaReadRefused (case_read tag own part refused t) mid new e → SchemaReadRefused (enum_read k tag own part refused) old new e
  enum_case_refused old mid new t e r u = (
    then_second Tag Behind (number_one k true)
        part.borrow part.borrow part.takes_no_memory part.takes_no_memory old mid new t e (omega arith) (λ x. x) r u.0,
    inr (t, mid, r, u),
  )

-- ---- writing

module _ {V W : Type 0} (g : WriteGrammar V) (h : WriteGrammar W) where
  pub first_unsized : (v : V) (e : WriteError) → SizeRefused g v e → SizeRefused (sides_write g h) (Ok v) e
  first_unsized v e d = (d.0, unsized_first g.builtin h.builtin e (λ c. c) d.1)

  pub other_unsized : (w : W) (e : WriteError) → SizeRefused h w e → SizeRefused (sides_write g h) (Err w) e
  other_unsized w e d = (d.0, unsized_second g.builtin h.builtin e (λ c. c) d.1)

  module _ {S K : Type 0} {put : S → List ℕ → S} {room : S → ℕ} {old new : WriterState put room K} where
    pub first_wrote : (v : V) → Wrote g old new v → Wrote (sides_write g h) old new (Ok v)
    first_wrote v r = wrote_map g (sides_write g h) v (Ok v) (λ c. c) refl (λ b w. w) r

    pub first_unwritten : (v : V) {e : WriteError} → WriteRefused g old new v e → WriteRefused (sides_write g h) old new (Ok v) e
    first_unwritten v u = unwritten_map g (sides_write g h) v (Ok v) (λ c. c) refl (λ b w. w) u

    pub first_halted : (v : V) {e : WriteError} → Stopped g old new v e → Stopped (sides_write g h) old new (Ok v) e
    first_halted v s = stopped_map g (sides_write g h) v (Ok v) (λ a r. r) s

    pub other_wrote : (w : W) → Wrote h old new w → Wrote (sides_write g h) old new (Err w)
    other_wrote w r = wrote_map h (sides_write g h) w (Err w) (λ c. c) refl (λ b t. t) r

    pub other_unwritten : (w : W) {e : WriteError} → WriteRefused h old new w e → WriteRefused (sides_write g h) old new (Err w) e
    other_unwritten w u = unwritten_map h (sides_write g h) w (Err w) (λ c. c) refl (λ b t. t) u

    pub other_halted : (w : W) {e : WriteError} → Stopped h old new w e → Stopped (sides_write g h) old new (Err w) e
    other_halted w s = stopped_map h (sides_write g h) w (Err w) (λ a r. r) s

module _ {X V : Type 0} (k : ℕ) (tag : V → ℕ) (own : V → Type 0) {p : X → Type 0} {model : X → V} {part : WriteGrammar V} (l : WriteLaws p model part) (v : V)
  where
    pub untagged_unsized : (e : WriteError) → (IsTagged k tag own v → ⊥) → IsOverflow past_usize e → SizeRefused (enum_write k tag own part) v e
    untagged_unsized e none o = (λ c fits. absurd (none c.0), overflow_unsized part.builtin e o)

    pub part_unsized : (e : WriteError) → SizeRefused part v e → SizeRefused (enum_write k tag own part) v e
    part_unsized e d = (λ c fits. d.0 c.1 (omega arith), unsized_part part.builtin e (λ c. c.1) d.1)

module _ {S K : Type 0} {put : S → List ℕ → S} {room : S → ℕ} (laws : WriterLaws put room) {X V : Type 0} (k : ℕ) (tag : V → ℕ) (own : V → Type 0)
    {p : X → Type 0} {model : X → V} {part : WriteGrammar V} (l : WriteLaws p model part) (v : V) where
  pub untagged_unwritten : (s : WriterState put room K) (e : WriteError) → (IsTagged k tag own v → ⊥) → IsOverflow past_usize e
      → WriteRefused (enum_write k tag own part) s s v e
  untagged_unwritten s e none o = unfit_unwritten (enum_write k tag own part) v laws (enum_write_laws k tag own l) s e (overflow_unfit true e o).0
      (λ c. absurd (none c.0))

  pub untagged_halted : (s : WriterState put room K) (e : WriteError) → (IsTagged k tag own v → ⊥) → IsOverflow past_usize e
      → Stopped (enum_write k tag own part) s s v e
  untagged_halted s e none o = nothing_stopped laws s s e refl (inl (none, refl, o))

  module _ {old : WriterState put room K} where
    pub enum_wrote : {mid new : WriterState put room K} → IsTagged k tag own v → Wrote (number_write k true) old mid (tag v) → Wrote part mid new v
        → Wrote (enum_write k tag own part) old new v
    enum_wrote i r s = wrote_map (tagged_write k tag part) (enum_write k tag own part) v v (λ c. (i, c)) refl (λ b t. (i, t)) (tagged_wrote laws k tag part l v r s)

    pub enum_tag_unwritten : {new : WriterState put room K} {e : WriteError} → IsTagged k tag own v → WriteRefused (number_write k true) old new (tag v) e
        → WriteRefused (enum_write k tag own part) old new v e
    enum_tag_unwritten i u = unwritten_map (tagged_write k tag part) (enum_write k tag own part) v v (λ c. c.1) refl (λ b t. (i, t))
        (tag_unwritten laws k tag part l v u)

    pub enum_part_unwritten : {mid new : WriterState put room K} {e : WriteError} → IsTagged k tag own v → Wrote (number_write k true) old mid (tag v)
        → WriteRefused part mid new v e → WriteRefused (enum_write k tag own part) old new v e
    enum_part_unwritten i r u = unwritten_map (tagged_write k tag part) (enum_write k tag own part) v v (λ c. c.1) refl (λ b t. (i, t))
        (part_unwritten laws k tag part l v r u)

    pub enum_tag_halted : {new : WriterState put room K} {e : WriteError} → Stopped (number_write k true) old new (tag v) e
        → Stopped (enum_write k tag own part) old new v e
    enum_tag_halted s = stopped_map (tagged_write k tag part) (enum_write k tag own part) v v (λ a r. inr r) (tag_halted laws k tag part l v s)

    pub enum_part_halted : {mid new : WriterState put room K} {e : WriteError} → Wrote (number_write k true) old mid (tag v) → Stopped part mid new v e
        → Stopped (enum_write k tag own part) old new v e
    enum_part_halted r s = stopped_map (tagged_write k tag part) (enum_write k tag own part) v v (λ a x. inr x) (part_halted laws k tag part l v r s)

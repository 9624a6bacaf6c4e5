-- Many values at once, as their byte forms.
use Rattle.std.specs.Prelude.{◌≡◌, ℕ, ◌*◌, ◌^◌, ◌≤◌, true, IsTrue, List, length, Result, IfErr}
use Rattle.wincode_io.specs.FormCalls.{FormWriteRefused}
use Rattle.wincode_io.specs.Readers.{ReaderState, StaysSound, IsShort, BytesReadRefused}
use Rattle.wincode_io.specs.Writers.{WriterState}
use Rattle.wincode_base.specs.Grammar.{ReadGrammar, WriteGrammar, ReadRefusal}
use Rattle.wincode_base.specs.Lists.{AddOutcome, items_write}
use Rattle.wincode_base.specs.Outcomes.{WriteOutcome, PieceWriteRefused, past_usize}
use Rattle.wincode_base.specs.declared.meta.TypeMeta.TheVariants.{Static}
use Rattle.wincode_base.specs.declared.error.ReadError.{ReadError}
use Rattle.wincode_base.specs.declared.error.WriteError.{WriteError}
use Rattle.wincode_base.specs.declared.error.ReadError.TheVariants as reading
use Rattle.wincode_base.specs.declared.error.WriteError.TheVariants as writing

-- b is the form of v
abbrev pub reads_form : {X : Type 0} → (X → Type 0) → (X → List ℕ) → List ℕ → X → Type 0
reads_form is_valid form b v = is_valid v × (b ≡ form v)

-- A value as its form, of s bytes, in one piece.
abbrev pub writes_form : {X : Type 0} → ℕ → (X → List ℕ) → WriteGrammar X
writes_form s form = record {
  writes = λ b v. b ≡ form v;
  can = λ v. Unit {0};
  size = λ v. s;
  fits = λ v. Unit {0};
  meta = Static s true;
  prealloc = s;
  builtin = true;
  refused = λ v. PieceWriteRefused s;
}

-- n bytes at once were refused, and stay: by the reader; for memory, which is asked for once they are there; or since they
-- are more than `usize::MAX`.
abbrev pub BulkReadRefused : ℕ → ReadRefusal
BulkReadRefused n old new (reading.Io e) = BytesReadRefused (IsShort n old) ⊥ n old new e
BulkReadRefused n old new reading.OutOfMemory = StaysSound old new × (IsTrue old.is_known → n ≤ length old.rest)
BulkReadRefused n old new (reading.LengthEncodingOverflow t) = StaysSound old new × (2 ^ 64 ≤ n) × (t.now ≡ past_usize)
BulkReadRefused n old new _ = ⊥

-- What a read of n values at once, in n * s bytes, answers: what reading them one after another does; refused, all bytes stay.
pub record ReadAtOnce {A D V : Type 0} (s n : ℕ) (g : ReadGrammar V) (model : D → V) (old new : ReaderState) (before after : List D)
    (r : Result A ReadError) : Type 0 where
  pub each : AddOutcome n g model old new before after r
  pub at_once : IfErr r (BulkReadRefused (n * s) old new)

-- n bytes at once were refused by the writer, which holds what it held
abbrev pub BulkWriteRefused : {S K : Type 0} {put : S → List ℕ → S} {room : S → ℕ} → ℕ → WriterState put room K → WriterState put room K → WriteError → Type 0
BulkWriteRefused n old new (writing.Io e) = FormWriteRefused n old new e
BulkWriteRefused n old new _ = ⊥

-- What a write of n values at once, in n * s bytes, answers: what writing them one after another does; refused, nothing was
-- added.
pub record WrittenAtOnce {A S K V : Type 0} {put : S → List ℕ → S} {room : S → ℕ} (s n : ℕ) (g : WriteGrammar V) (old new : WriterState put room K)
    (vs : List V) (are_valid : Type 0) (r : Result A WriteError) : Type 0 where
  pub each : WriteOutcome (items_write g) old new vs are_valid r
  pub at_once : IfErr r (BulkWriteRefused (n * s) old new)

-- What reading and writing a value answer, said once for lengths, leaves and compounds.
use Rattle.std.specs.Prelude.{⊤, ◌≡◌, ◌⊎◌, ℕ, ◌^◌, ◌<◌, ◌≤◌, min, Bool, false, ◌&&◌, List, [], ◌++◌, length, map, codes, IsTrue, Option, Result, OnOk}
use Rattle.std.specs.Prelude.{IfErr, OnErr, IfOk}
use Rattle.std.specs.Option.{IsSomeAnd}
use Rattle.wincode_io.specs.Joins.{AreItems}
use Rattle.wincode_io.specs.Readers.{ReaderState, Kept, IsSound, ReaderTells, IsOnward, IsShort, HasFailed, WhyRead, BytesReadRefused, WindowRefused, is_steady}
use Rattle.wincode_io.specs.Writers.{WriterState, IsSameWriter, IsSoundWriter, WriterTells, IsUnmoved, Took, byte_limit, WhyWrite, WriterHasFailed, finished, FinishRefused}
use Rattle.wincode_base.specs.Grammar.{ReadGrammar, WriteGrammar, ReadRefusal}
use Rattle.wincode_base.specs.declared.error.ReadError.{ReadError}
use Rattle.wincode_base.specs.declared.error.WriteError.{WriteError}
use Rattle.wincode_io.specs.declared.error.ReadError.{ReadError as IoReadError}
use Rattle.wincode_io.specs.declared.error.WriteError.{WriteError as IoWriteError}
use Rattle.wincode_base.specs.declared.error.ReadError.TheVariants as reading
use Rattle.wincode_base.specs.declared.error.WriteError.TheVariants as writing
use Rattle.wincode_io.specs.declared.error.ReadError.TheVariants as reader
use Rattle.wincode_io.specs.declared.error.WriteError.TheVariants as writer

-- ---- reading

-- a front of the input reads as v, and the rest stands after it
pub record Found {V : Type 0} (reads : List ℕ → V → Type 0) (input : List ℕ) (v : V) (rest : List ℕ) : Type 0 where
  pub encoding : List ℕ
  pub is_read : reads encoding v
  pub joins : input ≡ encoding ++ rest

-- some front reads
pub record Front {V : Type 0} (reads : List ℕ → V → Type 0) (input : List ℕ) : Type 0 where
  pub value : V
  pub rest : List ℕ
  pub found : Found reads input value rest

-- the rest is an end of the input
pub record IsEnd (input rest : List ℕ) : Type 0 where
  pub front : List ℕ
  pub joins : input ≡ front ++ rest

-- Reading gave v: a front of what the reader had reads as it, exactly the rest is left, the reader stands after
-- the front, and its device did not fail.
pub record Gives {V : Type 0} (reads : List ℕ → V → Type 0) (old new : ReaderState) (v : V) : Type 0 where
  pub kept : Kept old new
  pub sound : IsSound old new
  pub found : IsTrue old.is_known → Found reads old.rest v new.rest
  pub place : IsTrue old.is_known → IsOnward old new

-- the destination holds a value that reading gave
abbrev pub Puts : {D V : Type 0} → (List ℕ → V → Type 0) → (D → V) → ReaderState → ReaderState → Option D → Type 0
Puts reads model old new dst = IsSomeAnd dst (λ d. Gives reads old new (model d))

-- a list has grown by n values that reading gave
pub record Adds {D V : Type 0} (n : ℕ) (reads : List ℕ → V → Type 0) (model : D → V) (old new : ReaderState) (before after : List D) : Type 0 where
  pub items : List D
  pub is : after ≡ before ++ items
  pub gives : Gives (AreItems n reads) old new (map model items)

-- the bytes that the reader has are known, as many as there can be at the most, and a front of them reads
pub record Accepts {V : Type 0} (reads : List ℕ → V → Type 0) (old : ReaderState) : Type 0 where
  pub is_known : IsTrue old.is_known
  pub fits : length old.rest < 2 ^ 64
  pub front : Front reads old.rest

-- Why reading may be refused, where `accepted` says that a front reads: then for a borrow that the reader does not
-- lend, for memory, for a window that can't be counted, or by its device alone.
abbrev pub ReaderDue : Type 0 → ℕ → ReaderState → IoReadError → Type 0
ReaderDue accepted borrow new e =
    WhyRead (λ n. accepted → ⊥) (accepted → new.lends < borrow) (is_steady new ≡ false) (HasFailed new) e

-- So, with the errors of schemas: plain `OutOfMemory` is memory for the value, and any other error says that no
-- front reads.
abbrev pub ReadDue : Type 0 → ℕ → Bool → ReaderState → ReadError → Type 0
ReadDue accepted borrow takes_no_memory new (reading.Io e) = ReaderDue accepted borrow new e
ReadDue accepted borrow takes_no_memory new reading.OutOfMemory = (new.never_fails && takes_no_memory) ≡ false
ReadDue accepted borrow takes_no_memory new _ = accepted → ⊥

-- what a refused read tells of the device: by an `Io` of the reader's that it failed, by any other error that it did not
abbrev pub ReadTells : ReaderState → ReaderState → ReadError → Type 0
ReadTells old new (reading.Io e) = ReaderTells old new e
ReadTells old new _ = IsSound old new

-- Reading was refused: an end of what the reader had is left, it stands before that, and the error is due.
pub record ReadRefused {V : Type 0} (reads : List ℕ → V → Type 0) (borrow : ℕ) (takes_no_memory : Bool) (old new : ReaderState) (e : ReadError) : Type 0 where
  pub kept : Kept old new
  pub left : IsTrue old.is_known → IsEnd old.rest new.rest
  pub place : IsTrue old.is_known → IsOnward old new
  pub device : ReadTells old new e
  pub due : ReadDue (Accepts reads old) borrow takes_no_memory new e

-- it is never refused
abbrev pub never : ReadRefusal
never old new e = ⊥

-- it says no more than that it is due
abbrev pub unsaid : ReadRefusal
unsaid old new e = Unit {0}

-- n bytes were refused by the reader, which has the bytes that it had
abbrev pub PieceReadRefused : ℕ → ReaderState → ReaderState → ReadError → Type 0
PieceReadRefused n old new (reading.Io e) = BytesReadRefused (IsShort n old) ⊥ n old new e
PieceReadRefused n old new _ = ⊥

-- a window of n bytes was refused by the reader, which has the bytes that it had
abbrev pub NoWindow : ℕ → ReaderState → ReaderState → ReadError → Type 0
NoWindow n old new (reading.Io e) = WindowRefused n old new e
NoWindow n old new _ = ⊥

-- A read was refused: it is due, and as the grammar says.
abbrev pub SchemaReadRefused : {V : Type 0} → ReadGrammar V → ReadRefusal
SchemaReadRefused g old new e = ReadRefused g.reads g.borrow g.takes_no_memory old new e × g.refused old new e

-- So, of a reader that was left in some state.
abbrev pub FrontReadRefused : {V : Type 0} → ReadGrammar V → ReaderState → ReadError → Type 0
FrontReadRefused g old e = (left : ReaderState) × SchemaReadRefused g old left e

-- What a read into a destination answers: a value that it gave is there; or it was refused, as the grammar says, and the
-- destination is as it was.
pub record ReadOutcome {A D V : Type 0} (g : ReadGrammar V) (model : D → V) (old new : ReaderState) (before after : Option D)
    (r : Result A ReadError) : Type 0 where
  pub ok : OnOk r (Puts g.reads model old new after)
  pub refused : IfErr r (SchemaReadRefused g old new)
  pub same : OnErr r (after ≡ before)

-- What a read answers that gives its value.
pub record GetOutcome {D V : Type 0} (g : ReadGrammar V) (model : D → V) (old new : ReaderState) (r : Result D ReadError) : Type 0 where
  pub ok : IfOk r (λ d. Gives g.reads old new (model d))
  pub refused : IfErr r (SchemaReadRefused g old new)

-- What a read answers that gives what is made of values, where `made` says what is made of which.
pub record MakeOutcome {C D V : Type 0} (g : ReadGrammar (List V)) (model : D → V) (made : List D → C → Type 0) (old new : ReaderState)
    (r : Result C ReadError) : Type 0 where
  pub ok : IfOk r (λ c. (ds : List D) × Gives g.reads old new (map model ds) × made ds c)
  pub refused : IfErr r (SchemaReadRefused g old new)

-- ---- writing

-- Writing added one encoding of v, for which there was room.
pub record Wrote {S K V : Type 0} {put : S → List ℕ → S} {room : S → ℕ} (g : WriteGrammar V) (old new : WriterState put room K) (v : V) : Type 0 where
  pub can : g.can v
  pub fits : g.size v ≤ room old.content
  pub encoding : List ℕ
  pub is_encoding : g.writes encoding v
  pub took : Took encoding old new

-- the writer took a front of one of the encodings of v
pub record Began {S K V : Type 0} {put : S → List ℕ → S} {room : S → ℕ} (g : WriteGrammar V) (old new : WriterState put room K) (v : V) : Type 0 where
  pub front : List ℕ
  pub more : List ℕ
  pub is_encoding : g.writes (front ++ more) v
  pub within : length front ≤ room old.content
  pub added : new.content ≡ put old.content front

-- Why writing may be refused, where `able` says that the value can be written and its size fits the room: then for
-- memory or by the writer's device alone.
abbrev pub WriterDue : {S K : Type 0} {put : S → List ℕ → S} {room : S → ℕ} → Type 0 → WriterState put room K → IoWriteError → Type 0
WriterDue able new e = WhyWrite (λ n. able → ⊥) (new.never_fails ≡ false) (WriterHasFailed new) e

-- So, with the errors of schemas: any error of their own says that the value can't be written or its size is past
-- what fits.
abbrev pub WriteDue : {S K : Type 0} {put : S → List ℕ → S} {room : S → ℕ} → Type 0 → WriterState put room K → WriteError → Type 0
WriteDue able new (writing.Io e) = WriterDue able new e
WriteDue able new writing.OutOfMemory = new.never_fails ≡ false
WriteDue able new _ = able → ⊥

-- what a refused write tells of the device: by an `Io` of the writer's that it failed, by any other error that it did not
abbrev pub WriteTells : {S K : Type 0} {put : S → List ℕ → S} {room : S → ℕ} → WriterState put room K → WriterState put room K → WriteError → Type 0
WriteTells old new (writing.Io e) = WriterTells old new e
WriteTells old new _ = IsSoundWriter old new

-- ending a piece of writing was refused, which changes nothing but that it is counted
abbrev pub EndRefused : {S K : Type 0} {put : S → List ℕ → S} {room : S → ℕ} → Bool → WriterState put room K → WriterState put room K → WriteError → Type 0
EndRefused buffers old new (writing.Io e) = IsUnmoved (finished buffers old) new × FinishRefused buffers old new e
EndRefused buffers old new _ = ⊥

-- v can be written, in at most `usize::MAX` bytes, for which there is room
abbrev pub IsAble : {S K V : Type 0} {put : S → List ℕ → S} {room : S → ℕ} → WriteGrammar V → WriterState put room K → V → Type 0
IsAble {room = room} g old v = g.can v × (g.size v ≤ min (room old.content) byte_limit)

-- Writing was refused: a front of an encoding was added, where v can be written, and the error is due.
pub record WriteRefused {S K V : Type 0} {put : S → List ℕ → S} {room : S → ℕ} (g : WriteGrammar V) (old new : WriterState put room K) (v : V)
    (e : WriteError) : Type 0 where
  pub same : IsSameWriter old new
  pub began : g.can v → Began g old new v
  pub device : WriteTells old new e
  pub due : WriteDue (IsAble g old v) new e

-- A piece of n bytes was refused: there is less room, or memory or the device; nothing was added.
abbrev pub PieceWriteRefused : ℕ → ℕ → List ℕ → WriteError → Type 0
PieceWriteRefused n room added (writing.Io (writer.WriteSizeLimit m)) = (added ≡ []) × (room < n) × (m ≡ n)
PieceWriteRefused n room added (writing.Io e) = added ≡ []
PieceWriteRefused n room added _ = ⊥

-- A refused write has added these bytes, and is refused as the grammar says. It holds of what can't be written too.
pub record Stopped {S K V : Type 0} {put : S → List ℕ → S} {room : S → ℕ} (g : WriteGrammar V) (old new : WriterState put room K) (v : V)
    (e : WriteError) : Type 0 where
  pub added : List ℕ
  pub within : length added ≤ room old.content
  pub content : new.content ≡ put old.content added
  pub refused : g.refused v (room old.content) added e

-- A write was refused: it is due, and has added what the grammar says.
abbrev pub SchemaWriteRefused : {S K V : Type 0} {put : S → List ℕ → S} {room : S → ℕ} → WriteGrammar V → WriterState put room K → WriterState put room K
    → V → WriteError → Type 0
SchemaWriteRefused g old new v e = WriteRefused g old new v e × Stopped g old new v e

-- What a write answers: it added an encoding of one of the values, or it was refused and has added what the grammar says.
pub record WriteOutcome {A S K V : Type 0} {put : S → List ℕ → S} {room : S → ℕ} (g : WriteGrammar V) (old new : WriterState put room K) (v : V)
    (is_valid : Type 0) (r : Result A WriteError) : Type 0 where
  pub ok : OnOk r (Wrote g old new v)
  pub value : OnOk r is_valid
  pub refused : IfErr r (SchemaWriteRefused g old new v)

-- Writing the value and ending it was refused: the writing was; or all was written, and then a writer that keeps bytes
-- back was refused its memory or by its device.
abbrev pub SerializeIntoRefused : {S K V : Type 0} {put : S → List ℕ → S} {room : S → ℕ} → Bool → WriteGrammar V → WriterState put room K
    → WriterState put room K → V → WriteError → Type 0
SerializeIntoRefused {put = put} {room = room} buffers g old new v e = SchemaWriteRefused g old new v e
    ⊎ ((written : WriterState put room _) × Wrote g old written v × EndRefused buffers written new e)

-- the text of an overflow of a size past `usize::MAX`
abbrev pub past_usize : List ℕ
past_usize = codes "usize::MAX"

-- the text of an overflow of a short length
abbrev pub past_u16 : List ℕ
past_u16 = codes "u16::MAX"

-- an overflow with this text
abbrev pub IsOverflow : List ℕ → WriteError → Type 0
IsOverflow text (writing.LengthEncodingOverflow t) = t.now ≡ text
IsOverflow text _ = ⊥

-- a size or a length that overflows, of this crate's own schemas
abbrev pub IsLengthOverflow : WriteError → Type 0
IsLengthOverflow e = IsOverflow past_usize e ⊎ IsOverflow past_u16 e

-- the error of a value alone: neither want of memory nor a device is behind it
abbrev pub IsOfValueAlone : WriteError → Type 0
IsOfValueAlone writing.OutOfMemory = ⊥
IsOfValueAlone (writing.Io writer.OutOfMemory) = ⊥
IsOfValueAlone (writing.Io (writer.Io e)) = ⊥
IsOfValueAlone _ = ⊤

-- so, and an overflow where all parts are this crate's own
abbrev pub IsValueError : Bool → WriteError → Type 0
IsValueError builtin e = IsOfValueAlone e × (IsTrue builtin → IsLengthOverflow e)

-- The error of a size: of the value alone; and where all parts are this crate's own, an overflow of a sum or a product, or,
-- of what can't be written, that of a short length.
abbrev pub IsSizeError : Bool → Type 0 → WriteError → Type 0
IsSizeError builtin can e = IsOfValueAlone e × (IsTrue builtin → IsOverflow past_usize e ⊎ ((can → ⊥) × IsOverflow past_u16 e))

-- v can be written, in n bytes
abbrev pub IsSized : {V : Type 0} → WriteGrammar V → V → ℕ → Type 0
IsSized g v n = g.can v × (n ≡ g.size v)

-- v can be written, and the bytes are an encoding of it
abbrev pub IsEncoded : {V : Type 0} → WriteGrammar V → V → List ℕ → Type 0
IsEncoded g v bytes = g.can v × g.writes bytes v

-- The size of v was refused: v can't be written or its size is past `usize::MAX`.
abbrev pub SizeRefused : {V : Type 0} → WriteGrammar V → V → WriteError → Type 0
SizeRefused g v e = (g.can v → g.size v < 2 ^ 64 → ⊥) × IsSizeError g.builtin (g.can v) e

-- v can be written, and the bytes are an encoding of it, of its size
pub record IsSerialized {V : Type 0} (g : WriteGrammar V) (v : V) (bytes : List ℕ) : Type 0 where
  pub can : g.can v
  pub is_encoding : g.writes bytes v
  pub size : length bytes ≡ g.size v

-- It was refused as its size was; or its size is at most `usize::MAX`, and memory for so many bytes was wanted.
abbrev pub SerializeRefused : {V : Type 0} → WriteGrammar V → V → WriteError → Type 0
SerializeRefused g v e = SizeRefused g v e ⊎ (g.can v × (g.size v < 2 ^ 64) × (e ≡ writing.OutOfMemory))

-- What passing values on from a reader to a writer answers.
use Rattle.std.specs.Prelude.{⊤, ◌≡◌, ◌⊎◌, ℕ, ◌<◌, List, ◌++◌, map, IsTrue}
use Rattle.wincode_base.specs.Grammar.{ReadGrammar, WriteGrammar}
use Rattle.wincode_base.specs.Lengths.{Scheme, IsLength, length_read, length_write}
use Rattle.wincode_base.specs.Lists.{items_write}
use Rattle.wincode_base.specs.Outcomes.{Gives, Wrote, WriteRefused, SchemaReadRefused, ReadTells, WriteTells}
use Rattle.wincode_base.specs.declared.error.WriteError.{WriteError}
use Rattle.wincode_base.specs.declared.error.WriteError.TheVariants as writing
use Rattle.wincode_io.specs.Joins.{AreItems}
use Rattle.wincode_io.specs.Readers.{ReaderState, IsSound}
use Rattle.wincode_io.specs.Writers.{WriterState, IsSameWriter, IsSoundWriter, WriterTells}
use Rattle.wincode_io.specs.declared.error.WriteError.TheVariants as writer
use Rattle.wincode_recode.specs.Recoding.{IsRecodedAs, IsKept, RecodeInputRefused}
use Rattle.wincode_recode.specs.declared.recoding.RelayError.{RelayError}
use Rattle.wincode_recode.specs.declared.recoding.RelayError.TheVariants as relay
use Rattle.wincode_recode.specs.declared.recoding.KnownShape.{KnownShape}
use Rattle.wincode_recode.specs.declared.recoding.KnownShape.TheVariants.{Nested}

-- a refused write: the output failed, or else memory was refused
abbrev pub unwritten : WriteError → RelayError
unwritten (writing.Io (writer.Io e)) = relay.Output e
unwritten e = relay.Write e

-- A value was read and an encoding of it was written. It is an X, which reading sees by `rs` and writing by `ws`.
pub record Passed {X V W S K : Type 0} {put : S → List ℕ → S} {room : S → ℕ} (rs : X → V) (reads : List ℕ → V → Type 0) (ws : X → W) (w : WriteGrammar W)
    (old new : ReaderState) (before after : WriterState put room K) (value : X) : Type 0 where
  pub gives : Gives reads old new (rs value)
  pub wrote : Wrote w before after (ws value)

-- A value was read, which is within its limits where the reader is known, and writing it was refused.
pub record NotWritten {X V W S K : Type 0} {put : S → List ℕ → S} {room : S → ℕ} (rs : X → V) (reads : List ℕ → V → Type 0) (ws : X → W) (w : WriteGrammar W)
    (old new : ReaderState) (before after : WriterState put room K) (e : WriteError) : Type 0 where
  pub value : X
  pub gives : Gives reads old new (rs value)
  pub fits : IsTrue old.is_known → w.fits (ws value)
  pub refused : WriteRefused w before after (ws value) e

-- Why a value was not passed on: it was not read, as its grammar says, and nothing was written; or it was, and writing it was
-- refused.
abbrev pub NotPassed : {X V W S K : Type 0} {put : S → List ℕ → S} {room : S → ℕ} → (X → V) → ReadGrammar V → (X → W) → WriteGrammar W → ReaderState → ReaderState
    → WriterState put room K → WriterState put room K → RelayError → Type 0
NotPassed rs r ws w old new before after (relay.Read e) = SchemaReadRefused r old new e × (after ≡ before)
NotPassed rs r ws w old new before after e = (x : WriteError) × (e ≡ unwritten x) × NotWritten rs r.reads ws w old new before after x

-- Of n values so many were passed on, one after another, and then one was not.
pub record ItemNotPassed {X V W S K : Type 0} {put : S → List ℕ → S} {room : S → ℕ} (n : ℕ) (rs : X → V) (r : ReadGrammar V) (ws : X → W) (w : WriteGrammar W)
    (old new : ReaderState) (before after : WriterState put room K) (e : RelayError) : Type 0 where
  pub count : ℕ
  pub fewer : count < n
  pub values : List X
  pub mid : ReaderState
  pub between : WriterState put room K
  pub passed : Passed (map rs) (AreItems count r.reads) (map ws) (items_write w) old mid before between values
  pub refused : NotPassed rs r ws w mid new between after e

-- the length of a list was passed on, and then an item of it was not
pub record BehindLength {X V W S K : Type 0} {put : S → List ℕ → S} {room : S → ℕ} (s : Scheme) (rs : X → V) (r : ReadGrammar V) (ws : X → W) (w : WriteGrammar W)
    (old new : ReaderState) (before after : WriterState put room K) (e : RelayError) : Type 0 where
  pub len : ℕ
  pub mid : ReaderState
  pub between : WriterState put room K
  pub passed : Passed (λ n. n) (IsLength s r.prealloc) (λ n. n) (length_write s) old mid before between len
  pub refused : ItemNotPassed len rs r ws w mid new between after e

-- Why a list was not passed on: its length was not; or an item behind it.
abbrev pub ListNotPassed : {X V W S K : Type 0} {put : S → List ℕ → S} {room : S → ℕ} → Scheme → (X → V) → ReadGrammar V → (X → W) → WriteGrammar W
    → ReaderState → ReaderState → WriterState put room K → WriterState put room K → RelayError → Type 0
ListNotPassed s rs r ws w old new before after e =
    NotPassed (λ n. n) (length_read s r.prealloc) (λ n. n) (length_write s) old new before after e ⊎ BehindLength s rs r ws w old new before after e

-- ---- devices

-- neither device failed
abbrev pub AreSound : {S K : Type 0} {put : S → List ℕ → S} {room : S → ℕ} → ReaderState → ReaderState → WriterState put room K → WriterState put room K → Type 0
AreSound old new before after = IsSound old new × IsSoundWriter before after

-- what a refusal tells of the devices: that the reader's failed, or the writer's, or neither
abbrev pub RelayTells : {S K : Type 0} {put : S → List ℕ → S} {room : S → ℕ} → ReaderState → ReaderState → WriterState put room K → WriterState put room K
    → RelayError → Type 0
RelayTells old new before after (relay.Read e) = ReadTells old new e × IsSoundWriter before after
RelayTells old new before after (relay.Write e) = IsSound old new × WriteTells before after e
RelayTells old new before after (relay.Output e) = IsSound old new × WriterTells before after (writer.Io e)
RelayTells old new before after _ = AreSound old new before after

-- ---- a value of a shape

-- The value of the shape that the reader had in front was written, and nothing else.
abbrev pub IsPassedAs : {S K : Type 0} {put : S → List ℕ → S} {room : S → ℕ} → KnownShape → ReaderState → WriterState put room K → WriterState put room K → Type 0
IsPassedAs {put = put} shape reader before after = (text : List ℕ) × (after.content ≡ put before.content text)
    × (IsTrue reader.is_known → IsRecodedAs shape reader.rest text × IsKept shape reader.rest text)

-- a front of the bytes that the reader had was written
abbrev pub ListsWritten : {S K : Type 0} {put : S → List ℕ → S} {room : S → ℕ} → ReaderState → WriterState put room K → WriterState put room K → Type 0
ListsWritten {put = put} reader before after = IsTrue reader.is_known → (text : List ℕ) × (more : List ℕ) × (after.content ≡ put before.content text)
    × (reader.rest ≡ text ++ more)

-- nothing was written where the value was not read, and else a front of its encoding
abbrev pub WholeWritten : {S K : Type 0} {put : S → List ℕ → S} {room : S → ℕ} → KnownShape → ReaderState → WriterState put room K → WriterState put room K
    → RelayError → Type 0
WholeWritten shape reader before after (relay.Read e) = after ≡ before
WholeWritten {put = put} shape reader before after e = IsTrue reader.is_known → (text : List ℕ) × (more : List ℕ) × (after.content ≡ put before.content text)
    × IsRecodedAs shape reader.rest (text ++ more)

-- what was written of a value that was refused: of lists in lists what was read of them
abbrev pub RestWritten : {S K : Type 0} {put : S → List ℕ → S} {room : S → ℕ} → KnownShape → ReaderState → WriterState put room K → WriterState put room K
    → RelayError → Type 0
RestWritten Nested reader before after e = ListsWritten reader before after
RestWritten shape reader before after e = WholeWritten shape reader before after e

-- memory was wanted for what is to be written
abbrev pub IsWriteMemory : WriteError → Type 0
IsWriteMemory writing.OutOfMemory = ⊤
IsWriteMemory (writing.Io writer.OutOfMemory) = ⊤
IsWriteMemory _ = ⊥

-- how many bytes a value has at the most that is written as a whole: a list of lists is none
abbrev pub longest : ℕ
longest = 4194312

-- Why a value was refused: reading was; memory to write it was wanted, or there is not room for the longest; or the
-- output failed.
abbrev pub IsPassFault : KnownShape → ReaderState → ℕ → ℕ → RelayError → Type 0
IsPassFault shape reader room failures (relay.Read e) = RecodeInputRefused shape reader (relay.Read e)
IsPassFault shape reader room failures (relay.Write e) = IsTrue reader.is_known → IsWriteMemory e ⊎ (room < longest)
IsPassFault shape reader room failures (relay.Output e) = 0 < failures
IsPassFault shape reader room failures _ = ⊥

-- The value of the shape was refused, and so much of it was written.
abbrev pub NotPassedAs : {S K : Type 0} {put : S → List ℕ → S} {room : S → ℕ} → KnownShape → ReaderState → WriterState put room K → WriterState put room K
    → RelayError → Type 0
NotPassedAs {room = room} shape reader before after e =
    IsPassFault shape reader (room after.content) after.failures e × RestWritten shape reader before after e

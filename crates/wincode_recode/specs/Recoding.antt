-- What recoding answers.
use Rattle.std.specs.Prelude.{⊤, ◌≡◌, ℕ, ◌^◌, ◌<◌, false, List, ◌++◌, length, Option, IfSome, IsTrue}
use Rattle.std.specs.Io.KnownBytes.{Keeps, Appends}
use Rattle.wincode_base.specs.Grammar.{ReadGrammar, WriteGrammar}
use Rattle.wincode_base.specs.Outcomes.{Found, SchemaReadRefused, FrontReadRefused, SerializeRefused}
use Rattle.wincode_base.specs.declared.error.ReadError.{ReadError}
use Rattle.wincode_base.specs.declared.error.ReadError.TheVariants as reading
use Rattle.wincode_base.specs.declared.error.WriteError.{WriteError}
use Rattle.wincode_base.specs.declared.error.WriteError.TheVariants as writing
use Rattle.wincode_io.specs.Readers.{ReaderState, memory, shared, is_steady}
use Rattle.wincode_io.specs.declared.error.ReadError.TheVariants as reader
use Rattle.wincode_recode.specs.Shapes.{IsKnown, word_of, read_of, write_of}
use Rattle.wincode_recode.specs.declared.recoding.RelayError.{RelayError}
use Rattle.wincode_recode.specs.declared.recoding.RelayError.TheVariants as relay
use Rattle.wincode_recode.specs.declared.recoding.KnownShape.{KnownShape}
use Rattle.wincode_recode.specs.declared.recoding.KnownShape.TheVariants.{Pairs}

-- ---- one schema

-- A front of the input reads as a value, and the encoding is written for it.
pub record Recoded {V : Type 0} (r : ReadGrammar V) (w : WriteGrammar V) (input text : List ℕ) : Type 0 where
  pub value : V
  pub rest : List ℕ
  pub found : Found r.reads input value rest
  pub is_encoding : w.writes text value

-- A front of the input reads as a value, which reading sees by `rs` and writing by `ws`; the encoding is written for it, and
-- reads as it.
pub record Reread {X V W : Type 0} (rs : X → V) (r : ReadGrammar V) (ws : X → W) (w : WriteGrammar W) (input text : List ℕ) : Type 0 where
  pub value : X
  pub rest : List ℕ
  pub found : Found r.reads input (rs value) rest
  pub is_encoding : w.writes text (ws value)
  pub reads_back : r.reads text (rs value)

-- a value was read from the input, within its limits, and serializing it was refused
pub record RereadWriteRefused {X V W : Type 0} (rs : X → V) (r : ReadGrammar V) (ws : X → W) (w : WriteGrammar W) (input : List ℕ)
    (e : WriteError) : Type 0 where
  pub value : X
  pub rest : List ℕ
  pub found : Found r.reads input (rs value) rest
  pub fits : w.fits (ws value)
  pub refused : SerializeRefused w (ws value) e

-- Why the front of the bytes was not recoded by a schema: it was not read, as the schema says; or its value was not written.
abbrev pub RereadRefused : {X V W : Type 0} → (X → V) → ReadGrammar V → (X → W) → WriteGrammar W → ReaderState → RelayError → Type 0
RereadRefused rs r ws w old (relay.Read e) = FrontReadRefused r old e
RereadRefused rs r ws w old (relay.Write e) = IsTrue old.is_known → RereadWriteRefused rs r ws w old.rest e
RereadRefused rs r ws w old _ = ⊥

-- ---- a shape

-- memory for a value was wanted
abbrev pub IsReadMemory : ReadError → Type 0
IsReadMemory reading.OutOfMemory = ⊤
IsReadMemory _ = ⊥

-- the encoding is that of the shape's value at the front of the input
abbrev pub IsRecodedAs : KnownShape → List ℕ → List ℕ → Type 0
IsRecodedAs shape input text = Recoded (read_of shape) (write_of shape) input text

-- but for a map, it is that front itself
abbrev pub IsKept : KnownShape → List ℕ → List ℕ → Type 0
IsKept Pairs input text = ⊤
IsKept _ input text = (rest : List ℕ) × (input ≡ text ++ rest)

-- Why the front of the bytes was not recoded as the shape: no front reads, or memory for its value was wanted; or one
-- reads, and memory for its encoding was wanted.
abbrev pub RecodeAsRefused : KnownShape → List ℕ → RelayError → Type 0
RecodeAsRefused shape bytes (relay.Read e) = FrontReadRefused (read_of shape) (memory shared bytes) e
    × ((text : List ℕ) → IsRecodedAs shape bytes text → IsReadMemory e)
RecodeAsRefused shape bytes (relay.Write e) = ((text : List ℕ) × IsRecodedAs shape bytes text) × (e ≡ writing.OutOfMemory)
RecodeAsRefused shape bytes _ = ⊥

-- memory was wanted, for a value or by the reader, or the reader's device failed
abbrev pub IsReadFault : ReaderState → ReadError → Type 0
IsReadFault left reading.OutOfMemory = ⊤
IsReadFault left (reading.Io reader.OutOfMemory) = is_steady left ≡ false
IsReadFault left (reading.Io (reader.Io e)) = (left.never_fails ≡ false) × (0 < left.failures)
IsReadFault left _ = ⊥

-- So, of what any reader has: where a front reads, reading it was refused for memory or by the device.
abbrev pub RecodeInputRefused : KnownShape → ReaderState → RelayError → Type 0
RecodeInputRefused shape old (relay.Read e) = (left : ReaderState) × SchemaReadRefused (read_of shape) old left e
    × (IsTrue old.is_known → length old.rest < 2 ^ 64 → (text : List ℕ) → IsRecodedAs shape old.rest text → IsReadFault left e)
RecodeInputRefused shape old (relay.Write e) = IsTrue old.is_known → ((text : List ℕ) × IsRecodedAs shape old.rest text) × (e ≡ writing.OutOfMemory)
RecodeInputRefused shape old _ = ⊥

-- ---- a shape's word

-- the word is a shape's, and the encoding is that of the shape's value at the front of the input; but for a map, it is that
-- front itself
abbrev pub IsRecoded : List ℕ → List ℕ → List ℕ → Type 0
IsRecoded word input text = (shape : KnownShape) × (word ≡ word_of shape) × IsRecodedAs shape input text × IsKept shape input text

-- the word is no shape's; or the bytes were not recoded as the shape
abbrev pub RecodeRefused : List ℕ → List ℕ → RelayError → Type 0
RecodeRefused word bytes relay.UnknownShape = IsKnown word → ⊥
RecodeRefused word bytes e = (shape : KnownShape) × (word ≡ word_of shape) × RecodeAsRefused shape bytes e

-- ---- an input and an output

-- what the input had, where it tells, was recoded, and its encoding and nothing else was written
abbrev pub IsRelayed : List ℕ → Option (List ℕ) → Option (List ℕ) → Option (List ℕ) → Type 0
IsRelayed word input old new = IsKnown word × IfSome input (λ bytes. (text : List ℕ) × IsRecoded word bytes text × Appends old new text)

-- Why relaying was refused, and that but for an output that failed nothing was written.
abbrev pub RelayRefused : List ℕ → Option (List ℕ) → Option (List ℕ) → Option (List ℕ) → Option (List ℕ) → RelayError → Type 0
RelayRefused word input left old new relay.UnknownShape = (IsKnown word → ⊥) × Keeps input left × Keeps old new
RelayRefused word input left old new (relay.Input e) = IsKnown word × Keeps old new
RelayRefused word input left old new (relay.Read e) = IsKnown word × Keeps old new × IfSome input (λ bytes. RecodeRefused word bytes (relay.Read e))
RelayRefused word input left old new (relay.Write e) = IsKnown word × Keeps old new × IfSome input (λ bytes. RecodeRefused word bytes (relay.Write e))
RelayRefused word input left old new (relay.Output e) = IsKnown word × IfSome input (λ bytes. (text : List ℕ) × IsRecoded word bytes text)
RelayRefused word input left old new relay.OutOfMemory = IsKnown word × Keeps old new

-- the input failed, or memory was wanted
abbrev pub GatherRefused : RelayError → Type 0
GatherRefused (relay.Input e) = ⊤
GatherRefused relay.OutOfMemory = ⊤
GatherRefused _ = ⊥

abbrev pub status_of : RelayError → ℕ
status_of relay.UnknownShape = 2
status_of _ = 1

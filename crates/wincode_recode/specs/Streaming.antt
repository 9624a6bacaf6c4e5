-- What relaying what comes of a source answers.
use Rattle.std.specs.Prelude.{◌≡◌, ℕ, ◌+◌, List, [], ◌++◌, length, IsTrue}
use Rattle.wincode_io.specs.Readers.{ReaderState}
use Rattle.wincode_io.specs.Sinks.{SinkState}
use Rattle.wincode_io.specs.SinkWriters.{Sinking, sink_writer}
use Rattle.wincode_recode.specs.Passing.{NotPassedAs}
use Rattle.wincode_recode.specs.Recoding.{IsRecoded}
use Rattle.wincode_recode.specs.Shapes.{IsKnown, word_of}
use Rattle.wincode_recode.specs.declared.recoding.RelayError.{RelayError}
use Rattle.wincode_recode.specs.declared.recoding.RelayError.TheVariants as relay
use Rattle.wincode_recode.specs.declared.recoding.KnownShape.{KnownShape}

-- the sink has all that was written before, and then the text, and nothing else; it was flushed behind that, and the writer
-- was finished once
pub record WentOut {K : Type 0} (state : K → SinkState) (old new : Sinking K) (text : List ℕ) : Type 0 where
  pub kept : new.kept ≡ []
  pub sent : (state new.sink).sent ≡ (sink_writer state old).content.bytes ++ text
  pub flushed : (state new.sink).flushed ≡ length (state new.sink).sent
  pub finishes : new.finishes ≡ old.finishes + 1

-- What the reader of a source has was recoded, where it is known, and its encoding and nothing else has gone out.
abbrev pub IsStreamRelayed : {K : Type 0} → List ℕ → ReaderState → (K → SinkState) → Sinking K → Sinking K → Type 0
IsStreamRelayed word reader state old new = IsKnown word × ((text : List ℕ) × WentOut state old new text × (IsTrue reader.is_known → IsRecoded word reader.rest text))

-- Why relaying it was refused, and what was written. Reader and writer have their buffers, so that memory is wanted for the
-- value alone, to read it or to write it.
abbrev pub StreamRelayRefused : {K : Type 0} → List ℕ → ReaderState → (K → SinkState) → Sinking K → Sinking K → RelayError → Type 0
StreamRelayRefused word reader state old new relay.UnknownShape = (IsKnown word → ⊥) × (new ≡ old)
StreamRelayRefused word reader state old new e = (shape : KnownShape) × (word ≡ word_of shape) × NotPassedAs shape reader (sink_writer state old) (sink_writer state new) e

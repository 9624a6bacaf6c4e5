-- What is said of bytes that are explained by a type.
use Rattle.std.specs.Prelude.{◌≡◌, ◌⊎◌, ℕ, Bool, false, List, [], ◌++◌, length, IsTrue, Option, Some, None, is_none}
use Rattle.wincode_io.specs.Readers.{ReaderState, memory, nothing}
use Rattle.wincode_io.specs.Sources.{SourceState}
use Rattle.wincode_io.specs.Streams.{streaming}
use Rattle.wincode_io.specs.declared.error.ReadError.TheVariants as reader
use Rattle.wincode_base.specs.Outcomes.{Found, Gives, SchemaReadRefused, FrontReadRefused}
use Rattle.wincode_base.specs.declared.error.ReadError.{ReadError}
use Rattle.wincode_base.specs.declared.error.ReadError.TheVariants as reading
use Rattle.wincode_describe.specs.Parts.{Part, parts_bytes}
use Rattle.wincode_describe.specs.Types.{described_read}
use Rattle.wincode_describe.specs.declared.described.Described.{Described}

-- The bytes of the parts, joined in order, are a front of the bytes.
abbrev pub AreFront : List ℕ → List Part → Type 0
AreFront bytes parts = (rest : List ℕ) × (bytes ≡ parts_bytes parts ++ rest)

-- A value of the type stands at the front, and these are its parts; or it was refused as a reader over the bytes is, and these
-- stand before what was refused.
abbrev pub Explains : Described → List ℕ → List Part → Option ReadError → Type 0
Explains d bytes parts None = AreFront bytes parts × ((rest : List ℕ) × Found (described_read d).reads bytes parts rest)
Explains d bytes parts (Some e) = AreFront bytes parts × FrontReadRefused (described_read d) (memory nothing bytes) e

-- So, of what a reader had.
abbrev pub ExplainsRead : Described → ReaderState → ReaderState → List Part → Option ReadError → Type 0
ExplainsRead d old new parts None = (IsTrue old.is_known → AreFront old.rest parts) × Gives (described_read d).reads old new parts
ExplainsRead d old new parts (Some e) = (IsTrue old.is_known → AreFront old.rest parts) × SchemaReadRefused (described_read d) old new e

-- So, of what comes of a source, read through a buffer; or memory for the buffer was wanted.
abbrev pub ExplainsSource : Described → SourceState → List Part → Option ReadError → Type 0
ExplainsSource d s parts None = (IsTrue s.is_known → AreFront s.coming parts)
    × (IsTrue s.is_known → (rest : List ℕ) × Found (described_read d).reads s.coming parts rest)
ExplainsSource d s parts (Some e) = (IsTrue s.is_known → AreFront s.coming parts)
    × ((e ≡ reading.Io reader.OutOfMemory) ⊎ FrontReadRefused (described_read d) (streaming 0 [] false s) e)

-- some parts of so many bytes explain them
abbrev pub Checks : Described → List ℕ → ℕ → Option ReadError → Type 0
Checks d bytes n refused = (parts : List Part) × (n ≡ length (parts_bytes parts)) × Explains d bytes parts refused

-- so, of what a reader has
abbrev pub ChecksRead : Described → ReaderState → ReaderState → ℕ → Option ReadError → Type 0
ChecksRead d old new n refused = (parts : List Part) × (n ≡ length (parts_bytes parts)) × ExplainsRead d old new parts refused

-- some parts explain what a reader had, and it is said whether nothing was refused
abbrev pub SaysRead : Described → ReaderState → ReaderState → Bool → Type 0
SaysRead d old new whole = (parts : List Part) × (refused : Option ReadError) × ExplainsRead d old new parts refused × (whole ≡ is_none refused)

-- so, what comes of a source
abbrev pub SaysSource : Described → SourceState → Bool → Type 0
SaysSource d s whole = (parts : List Part) × (refused : Option ReadError) × ExplainsSource d s parts refused × (whole ≡ is_none refused)

-- Parts that are counted and not kept.
use Rattle.std.specs.Prelude.{◌≡◌, length, List, Option}
use Rattle.wincode_io.specs.Readers.{ReaderState}
use Rattle.wincode_base.specs.declared.error.ReadError.{ReadError}
use Rattle.wincode_describe.specs.Explained.{ExplainsRead}
use Rattle.wincode_describe.specs.Parts.{Part, parts_bytes}
use Rattle.wincode_describe.specs.declared.described.Described.{Described}
use Rattle.wincode_c.specs.declared.checking.Counted.{Counted}

-- Some parts explain what the reader had by the type, and they and their bytes are counted.
abbrev pub Counts : Described → ReaderState → ReaderState → Counted → Option ReadError → Type 0
Counts d old new c refused = (parts : List Part) × ExplainsRead d old new parts refused × (c.bytes ≡ length (parts_bytes parts)) × (c.parts ≡ length parts)

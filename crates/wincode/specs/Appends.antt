-- Why a value is not appended to a log.
use Rattle.std.specs.Prelude.{◌⊎◌, ◌≡◌, ℕ, List}
use Rattle.wincode_io.specs.Writers.{WriterState, BytesWriteRefused}
use Rattle.wincode_base.specs.Grammar.{WriteGrammar}
use Rattle.wincode_base.specs.Outcomes.{SizeRefused}
use Rattle.wincode.specs.Messages.{HasNoBytes, no_bytes}
use Rattle.wincode_base.specs.declared.error.WriteError.{WriteError}
use Rattle.wincode_base.specs.declared.error.WriteError.TheVariants as writing

-- room for the bytes of the value was refused by the writer
abbrev pub NoRoom : {S K V : Type 0} {put : S → List ℕ → S} {room : S → ℕ} → WriteGrammar V → WriterState put room K → WriterState put room K → V → WriteError → Type 0
NoRoom g old new v (writing.Io e) = BytesWriteRefused (g.size v) old new e
NoRoom g old new v e = ⊥

-- values without bytes are not appended
abbrev pub NothingToAppend : {V : Type 0} → WriteGrammar V → WriteError → Type 0
NothingToAppend g (writing.Custom text) = HasNoBytes g.meta × (text.now ≡ no_bytes)
NothingToAppend g e = ⊥

-- Why a value is not appended: it has no bytes; its size is refused; or room for so many bytes is.
abbrev pub AppendRefused : {S K V : Type 0} {put : S → List ℕ → S} {room : S → ℕ} → WriteGrammar V → WriterState put room K → WriterState put room K → V → WriteError → Type 0
AppendRefused g old new v e = NothingToAppend g e ⊎ SizeRefused g v e ⊎ (g.can v × NoRoom g old new v e)

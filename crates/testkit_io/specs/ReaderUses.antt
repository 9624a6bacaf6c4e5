-- What reads through windows leave.
use Rattle.std.specs.Prelude.{◌≡◌, ◌⊎◌, IsTrue}
use Rattle.wincode_io.specs.declared.error.ReadError.{ReadError}
use Rattle.wincode_io.specs.declared.error.ReadError.TheVariants.{OutOfMemory}
use Rattle.wincode_io.specs.Readers.{ReaderState, Loses, WindowRefused}

-- Two pairs were refused: the window of six bytes was; or it was taken, and, where windows are counted, none could be
-- counted inside it.
abbrev pub PairsReadRefused : ReaderState → ReaderState → ReadError → Type 0
PairsReadRefused old new e = WindowRefused 6 old new e ⊎ (IsTrue old.counts_windows × Loses 6 old new × (e ≡ OutOfMemory))

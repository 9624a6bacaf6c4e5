-- What one read of a source does.
use Rattle.std.specs.Prelude.{◌≡◌, ◌≤◌, List, ◌++◌, ℕ, length}
use Rattle.wincode_io.specs.declared.error.ReadError.{ReadError}
use Rattle.wincode_io.specs.declared.error.ReadError.TheVariants.{ReadSizeLimit, UnsupportedZeroCopy, Io, OutOfMemory}
use Rattle.wincode_io.specs.Sources.{SourceState, Gave, Failed}

-- n bytes, at most 8192, came from the source and stand behind the old ones
pub record Came (n : ℕ) (old new : List ℕ) (before after : SourceState) : Type 0 where
  pub piece : List ℕ
  pub behind : new ≡ old ++ piece
  pub size : length piece ≡ n
  pub step : n ≤ 8192
  pub gave : Gave 1 piece before after

-- no byte came: for want of memory, and the source was not asked, or because it failed
abbrev pub IsUnread : SourceState → SourceState → ReadError → Type 0
IsUnread old new (ReadSizeLimit n) = ⊥
IsUnread old new UnsupportedZeroCopy = ⊥
IsUnread old new OutOfMemory = new ≡ old
IsUnread old new (Io e) = Failed old new e

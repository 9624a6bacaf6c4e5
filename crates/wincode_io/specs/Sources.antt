-- What a source is to contracts.
use Rattle.std.specs.Prelude.{◌≡◌, ℕ, ◌<◌, Bool, true, List, [], ◌++◌, length, IsTrue}
use Rattle.std.specs.IoError.{error_kind}
use Rattle.std.specs.declared.io.Error.{Error}
use Rattle.std.specs.declared.io.ErrorKind.{ErrorKind}
use Rattle.std.specs.declared.io.ErrorKind.TheVariants.{Other}

-- the bytes that will come, how often the source failed and of what kind the last failure was, and whether what is said
-- of its bytes holds
pub record SourceState : Type 0 where
  pub coming : List ℕ
  pub failures : ℕ
  pub last : ErrorKind
  pub is_known : Bool

-- a source of these bytes of memory, which hasn't failed
abbrev pub of_memory : List ℕ → SourceState
of_memory bytes = record { coming = bytes; failures = 0; last = Other; is_known = true }

-- It gave these bytes, of which there was room for so many: none, where there was room, only at the end. That is no
-- failure.
pub record Gave (room : ℕ) (bytes : List ℕ) (old new : SourceState) : Type 0 where
  pub is_known : new.is_known ≡ old.is_known
  pub coming : IsTrue old.is_known → old.coming ≡ bytes ++ new.coming
  pub ended : IsTrue old.is_known → 0 < room → length bytes ≡ 0 → new.coming ≡ []
  pub failures : new.failures ≡ old.failures

-- it failed with this error, and the same bytes will come
pub record Failed (old new : SourceState) (e : Error) : Type 0 where
  pub is_known : new.is_known ≡ old.is_known
  pub coming : IsTrue old.is_known → new.coming ≡ old.coming
  pub failures : 0 < new.failures
  pub last : new.last ≡ error_kind e

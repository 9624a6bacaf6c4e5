-- What a sink is to contracts.
use Rattle.std.specs.Prelude.{◌≡◌, ℕ, ◌<◌, ◌≤◌, List, ◌++◌, length, take}
use Rattle.std.specs.IoError.{error_kind}
use Rattle.std.specs.declared.io.Error.{Error}
use Rattle.std.specs.declared.io.ErrorKind.{ErrorKind}
use Rattle.std.specs.declared.io.ErrorKind.TheVariants.{WriteZero}

-- the bytes that it took, in order, how many of them stand before its last flush, how often it failed, and of what kind the
-- last failure was
pub record SinkState : Type 0 where
  pub sent : List ℕ
  pub flushed : ℕ
  pub failures : ℕ
  pub last : ErrorKind

-- It took the first n of the bytes: none, of some, only where it takes no more, which is a failure of kind WriteZero.
pub record TookFront (n : ℕ) (bytes : List ℕ) (old new : SinkState) : Type 0 where
  pub within : n ≤ length bytes
  pub sent : new.sent ≡ old.sent ++ take n bytes
  pub flushed : new.flushed ≡ old.flushed
  pub served : 0 < n → new.failures ≡ old.failures
  pub full : n ≡ 0 → 0 < length bytes → (0 < new.failures) × (new.last ≡ WriteZero)

-- it failed with this error, and took nothing
pub record TookNone (old new : SinkState) (e : Error) : Type 0 where
  pub sent : new.sent ≡ old.sent
  pub flushed : new.flushed ≡ old.flushed
  pub failures : 0 < new.failures
  pub last : new.last ≡ error_kind e

-- it was flushed, so that all that it took stands before its last flush
pub record Flushed (old new : SinkState) : Type 0 where
  pub sent : new.sent ≡ old.sent
  pub flushed : new.flushed ≡ length new.sent
  pub failures : new.failures ≡ old.failures

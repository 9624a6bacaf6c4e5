-- What std's readers are as sources.
use Rattle.std.specs.Prelude.{ℕ, Bool, false, List, [], length, nat_le, Option, None, Some}
use Rattle.std.specs.declared.io.ErrorKind.{ErrorKind}
use Rattle.wincode_io.specs.Writers.{byte_limit}
use Rattle.wincode_io.specs.Sources.{SourceState}

-- the reader, the reader as it was when the source was made, how often it failed, and of what kind the last failure was
pub record Wrapped (R : Type 0) : Type 0 where
  pub inner : R
  pub first : R
  pub failures : ℕ
  pub last : ErrorKind

-- the bytes are known, and their number is a `usize`
abbrev pub are_known : Option (List ℕ) → Bool
are_known None = false
are_known (Some bytes) = nat_le (length bytes) byte_limit

-- the bytes that are known
abbrev pub known_bytes : Option (List ℕ) → List ℕ
known_bytes None = []
known_bytes (Some bytes) = bytes

-- What is said of the bytes holds where the reader told them when the source was made.
abbrev pub std_state : {R : Type 0} → (R → Option (List ℕ)) → Wrapped R → SourceState
std_state remaining s = record { coming = known_bytes (remaining s.inner); failures = s.failures; last = s.last; is_known = are_known (remaining s.first) }

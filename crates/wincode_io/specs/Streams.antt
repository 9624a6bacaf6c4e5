-- What a buffered reader is to contracts.
use Rattle.std.specs.Prelude.{◌≡◌, ℕ, ◌+◌, ◌≤◌, ◌<◌, Bool, true, false, List, [], ◌++◌, length, drop, IsTrue, Result, Ok, Err, Some}
use Rattle.wincode_io.specs.Writers.{byte_limit}
use Rattle.wincode_io.specs.declared.error.ReadError.{ReadError}
use Rattle.wincode_io.specs.declared.error.ReadError.TheVariants.{ReadSizeLimit, UnsupportedZeroCopy, Io, OutOfMemory}
use Rattle.wincode_io.specs.Failures.{IsTold}
use Rattle.wincode_io.specs.Places.{placed}
use Rattle.wincode_io.specs.Readers.{ReaderState, nothing}
use Rattle.wincode_io.specs.Sources.{SourceState}

-- how many bytes went by, those at hand, the source of those that follow them, whether it has ended, and whether it has failed
pub record Streamed (S : Type 0) : Type 0 where
  pub position : ℕ
  pub at_hand : List ℕ
  pub source : S
  pub has_ended : Bool
  pub has_failed : Bool

-- Behind so many bytes: those at hand, followed by those that will come of a source that has failed or hasn't.
abbrev pub streaming : ℕ → List ℕ → Bool → SourceState → ReaderState
streaming position at_hand has_failed s = record {
  rest = at_hand ++ s.coming;
  ready = length at_hand;
  lends = nothing;
  never_fails = false;
  counts_windows = true;
  failures = s.failures;
  has_failed = has_failed;
  last = s.last;
  is_known = s.is_known;
  place = Some (placed [] position);
}

abbrev pub stream_state : {S : Type 0} → (S → SourceState) → Streamed S → ReaderState
stream_state state r = streaming r.position r.at_hand r.has_failed (state r.source)

-- no more bytes will come, if what is said of them holds
abbrev pub IsOver : SourceState → Type 0
IsOver s = IsTrue s.is_known → s.coming ≡ []

-- the source was not asked, and the first k bytes at hand are gone
pub record IsUnasked {S : Type 0} (k : ℕ) (old new : Streamed S) : Type 0 where
  pub position : new.position ≡ old.position + k
  pub at_hand : new.at_hand ≡ drop k old.at_hand
  pub source : new.source ≡ old.source
  pub has_ended : new.has_ended ≡ old.has_ended
  pub has_failed : new.has_failed ≡ old.has_failed

-- The source is asked neither where n bytes are at hand, nor after its end, nor after a failure. Where it is asked, at
-- most 8191 bytes beyond these n come to hand, unless as many were there; k of all are then gone.
pub record Asks {S : Type 0} (n k : ℕ) (old new : Streamed S) : Type 0 where
  pub served : n ≤ length old.at_hand → IsUnasked k old new
  pub ended : IsTrue old.has_ended → IsUnasked k old new
  pub failed : IsTrue old.has_failed → IsUnasked k old new
  pub step : n + 8192 ≤ length new.at_hand + k → length new.at_hand + k ≤ length old.at_hand

-- how many bytes are gone by a call that takes n where it succeeds
abbrev pub gone : {T E : Type 0} → ℕ → Result T E → ℕ
gone n (Ok _) = n
gone n (Err _) = 0

-- all of n bytes are at hand, or the source has ended
abbrev pub IsFetched : {S : Type 0} → ℕ → Streamed S → Type 0
IsFetched n new = length new.at_hand < n → IsTrue new.has_ended

-- Why a call for n bytes is refused, of which fewer are at hand: the source has ended; it failed, as is remembered, with
-- an error of this kind, or of kind Other where it had failed before; or memory to ask it again was refused. More than a
-- `usize` counts are refused at once.
abbrev pub StreamRefused : {S : Type 0} → (S → SourceState) → ℕ → Streamed S → Streamed S → ReadError → Type 0
StreamRefused state n old new (ReadSizeLimit m) = (length new.at_hand < n) × (n ≤ byte_limit → IsTrue new.has_ended × (IsTrue old.has_failed → ⊥))
StreamRefused state n old new UnsupportedZeroCopy = ⊥
StreamRefused state n old new (Io e) = (length new.at_hand < n) × IsTold old.has_failed new.has_failed (state new.source).last e
StreamRefused state n old new OutOfMemory = (length new.at_hand < n) × (new.has_ended ≡ false) × (new.has_failed ≡ false)

-- Why a window of n bytes is refused: so too, or, where they are at hand, since it can't be counted.
abbrev pub StreamWindowRefused : {S : Type 0} → (S → SourceState) → ℕ → Streamed S → Streamed S → ReadError → Type 0
StreamWindowRefused state n old new (ReadSizeLimit m) = StreamRefused state n old new (ReadSizeLimit m)
StreamWindowRefused state n old new UnsupportedZeroCopy = ⊥
StreamWindowRefused state n old new (Io e) = StreamRefused state n old new (Io e)
StreamWindowRefused state n old new OutOfMemory = length new.at_hand < n → StreamRefused state n old new OutOfMemory

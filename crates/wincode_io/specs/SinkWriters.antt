-- What a writer to a sink is to contracts.
use Rattle.std.specs.Prelude.{⊤, ◌≡◌, ℕ, ◌+◌, ◌-◌, ◌<◌, min, Bool, false, List, [], ◌++◌, length, IsTrue}
use Rattle.wincode_io.specs.declared.error.WriteError.{WriteError}
use Rattle.wincode_io.specs.declared.error.WriteError.TheVariants.{WriteSizeLimit, Io, OutOfMemory}
use Rattle.wincode_io.specs.Failures.{IsTold}
use Rattle.wincode_io.specs.Writers.{WriterState, byte_limit}
use Rattle.wincode_io.specs.Sinks.{SinkState}

-- the bytes that the sink took, followed by those that are kept, and how many were written
pub record Written : Type 0 where
  pub bytes : List ℕ
  pub count : ℕ

-- `a` behind what was written
abbrev pub written_put : Written → List ℕ → Written
written_put s a = record { bytes = s.bytes ++ a; count = s.count + length a }

-- as many bytes as can still be counted
abbrev pub written_room : Written → ℕ
written_room s = byte_limit - s.count

-- The bytes that are kept, the sink, how many bytes were written, whether the sink has failed, how often the writer was
-- finished, and for how many more bytes there is memory.
pub record Sinking (S : Type 0) : Type 0 where
  pub kept : List ℕ
  pub sink : S
  pub count : ℕ
  pub has_failed : Bool
  pub finishes : ℕ
  pub spare : ℕ

-- What was written are the bytes that the sink took, followed by those that are kept.
abbrev pub sink_writer : {S : Type 0} → (S → SinkState) → Sinking S → WriterState written_put written_room Unit
sink_writer state w = record {
  content = record { bytes = (state w.sink).sent ++ w.kept; count = w.count };
  kept = tt;
  never_fails = false;
  failures = (state w.sink).failures;
  has_failed = w.has_failed;
  last = (state w.sink).last;
  finishes = w.finishes;
  ready = min w.spare (byte_limit - w.count);
}

-- the sink was not flushed
abbrev pub IsUnflushed : {S : Type 0} → (S → SinkState) → Sinking S → Sinking S → Type 0
IsUnflushed state old new = (state new.sink).flushed ≡ (state old.sink).flushed

-- all that was kept is passed on
pub record IsPassedOn {S : Type 0} (state : S → SinkState) (old new : Sinking S) : Type 0 where
  pub kept : new.kept ≡ []
  pub sent : (state new.sink).sent ≡ (state old.sink).sent ++ old.kept
  pub failed : new.has_failed ≡ false
  pub spare : 8191 < new.spare
  pub count : new.count ≡ old.count

-- the sink has all that was written, and all of it stands before the sink's last flush
pub record IsFinished {S : Type 0} (state : S → SinkState) (old new : Sinking S) : Type 0 where
  pub kept : new.kept ≡ []
  pub sent : (state new.sink).sent ≡ (sink_writer state old).content.bytes
  pub flushed : (state new.sink).flushed ≡ length (state new.sink).sent
  pub failed : new.has_failed ≡ false

-- a sink that has failed is not asked, so that all stays as it is
abbrev pub IsUnasked : {S : Type 0} → Sinking S → Sinking S → Type 0
IsUnasked old new = IsTrue old.has_failed → new ≡ old

-- so, of a call that ends a piece of writing, which is counted
abbrev pub IsUnaskedAtEnd : {S : Type 0} → Sinking S → Sinking S → Type 0
IsUnaskedAtEnd old new = IsTrue old.has_failed → new ≡ record old { finishes = old.finishes + 1 }

-- a sink that has failed is not asked by a call that writes either, and its failure is not forgotten
abbrev pub StaysFailed : {S : Type 0} → Sinking S → Sinking S → Type 0
StaysFailed old new = IsTrue old.has_failed → (new.sink ≡ old.sink) × IsTrue new.has_failed

-- Why a call for n bytes is refused: more were written than can be counted; the sink failed, as is remembered, with an error
-- of this kind, or of kind Other where it had failed before; or memory for more than 8192 bytes was refused.
abbrev pub SinkRefused : {S : Type 0} → (S → SinkState) → ℕ → Sinking S → Sinking S → WriteError → Type 0
SinkRefused state n old new (WriteSizeLimit m) = byte_limit < old.count + n
SinkRefused state n old new (Io e) = IsTold old.has_failed new.has_failed (state new.sink).last e
SinkRefused state n old new OutOfMemory = (8192 < n) × (IsTrue old.has_failed → ⊥)

-- the sink refused
abbrev pub IsOfSink : WriteError → Type 0
IsOfSink (WriteSizeLimit n) = ⊥
IsOfSink (Io e) = ⊤
IsOfSink OutOfMemory = ⊥

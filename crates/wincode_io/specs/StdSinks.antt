-- What std's writers are as sinks.
use Rattle.std.specs.Prelude.{ℕ, List}
use Rattle.std.specs.declared.io.ErrorKind.{ErrorKind}
use Rattle.wincode_io.specs.Sinks.{SinkState}

-- the writer, the writer as it was when the sink was made, the bytes that it said it took since, how many of them stood
-- before its last flush, how often it failed, and of what kind the last failure was
pub record WrappedWriter (W : Type 0) : Type 0 where
  pub inner : W
  pub first : W
  pub sent : List ℕ
  pub flushed : ℕ
  pub failures : ℕ
  pub last : ErrorKind

abbrev pub std_sink_state : {W : Type 0} → WrappedWriter W → SinkState
std_sink_state s = record { sent = s.sent; flushed = s.flushed; failures = s.failures; last = s.last }

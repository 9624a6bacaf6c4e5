use Rattle.std.proofs.Common.{◌≡◌, ◌+◌, ◌-◌, ◌≤◌, length, IsTrue}
use Rattle.wincode_io.specs.Readers.{Stays, IsSound}
use Rattle.wincode_io.specs.Streams.{stream_state}
use Rattle.wincode_io.proofs.stream_reader.StreamReader.fetch.Given as goal

-- it has the bytes that it had, and no more at hand than it asked for; a source that had ended or failed was not asked
abbrev pub invariant-loop-self : goal.invariant-loop-self
invariant-loop-self g l = record {
  stays : Stays (stream_state g.S.Source.state l.initial.self) (stream_state g.S.Source.state l.self);
  device : IsSound (stream_state g.S.Source.state l.initial.self) (stream_state g.S.Source.state l.self);
  step : l.n + 8192 ≤ length l.self.at_hand → length l.self.at_hand ≤ length l.initial.self.at_hand;
  served : l.n ≤ length l.initial.self.at_hand → l.self ≡ l.initial.self;
  ended : IsTrue l.initial.self.has_ended → l.self ≡ l.initial.self;
  failed : IsTrue l.initial.self.has_failed → l.self ≡ l.initial.self;
  sound : l.self.has_failed ≡ l.initial.self.has_failed;
}

abbrev pub decreases-loop-self : goal.decreases-loop-self
decreases-loop-self g l = l.n - length l.self.at_hand

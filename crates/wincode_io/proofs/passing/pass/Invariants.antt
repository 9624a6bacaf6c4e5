use Rattle.std.proofs.Common.{◌≡◌, ◌-◌, ◌≤◌, ◌++◌, length, take}
use Rattle.wincode_io.proofs.passing.pass.Given as goal

abbrev pub invariant-loop-taken : goal.invariant-loop-taken
invariant-loop-taken g l = let S = g.S.Sink in record {
  within : l.taken ≤ length l.bytes;
  sent : (S.state l.sink).sent ≡ (S.state l.fn.sink).sent ++ take l.taken l.bytes;
  flushed : (S.state l.sink).flushed ≡ (S.state l.fn.sink).flushed;
  failures : (S.state l.sink).failures ≡ (S.state l.fn.sink).failures;
}

abbrev pub decreases-loop-taken : goal.decreases-loop-taken
decreases-loop-taken g l = length l.bytes - l.taken

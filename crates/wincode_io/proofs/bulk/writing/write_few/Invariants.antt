use Rattle.std.proofs.Common.{◌≡◌, ◌-◌, ◌*◌, ◌≤◌, take, drop, length}
use Rattle.std.specs.List.{All, flat_map}
use Rattle.wincode_io.specs.Writers.{Took}
use Rattle.wincode_io.proofs.bulk.writing.write_few.Given as goal

abbrev pub decreases-loop-rest : goal.decreases-loop-rest
decreases-loop-rest g l = length l.rest

abbrev pub invariant-loop-rest : goal.invariant-loop-rest
invariant-loop-rest g l = let W = g.W.Writer in let T = g.T.ZeroCopy in let done = length l.values - length l.rest in record {
  took : Took (flat_map T.form (take done l.values)) (W.state l.fn.writer) (W.state l.writer);
  rest : l.rest ≡ drop done l.values;
  within : length l.rest ≤ length l.values;
  ready : length l.rest * T.size ≤ (W.state l.writer).ready;
  is_valid : All T.is_valid (take done l.values);
}

use Rattle.std.proofs.Common.{◌≡◌, ◌+◌, ◌*◌, ◌≤◌, take, length}
use Rattle.std.specs.List.{All, flat_map}
use Rattle.wincode_io.specs.Writers.{Took}
use Rattle.wincode_io.proofs.bulk.writing.write_each.Given as goal

abbrev pub invariant-loop-value : goal.invariant-loop-value
invariant-loop-value g l = let W = g.W.Writer in let T = g.T.ZeroCopy in record {
  took : Took (flat_map T.form (take l.value-index l.values)) (W.state l.fn.writer) (W.state l.writer);
  long : length (flat_map T.form (take l.value-index l.values)) ≡ l.value-index * T.size;
  ready : length l.values * T.size ≤ (W.state l.writer).ready + l.value-index * T.size;
  is_valid : All T.is_valid (take l.value-index l.values);
}

use Rattle.std.proofs.Common.{◌≡◌, ◌+◌, ◌*◌, ◌≤◌, take, length}
use Rattle.std.specs.List.{All, flat_map}
use Rattle.wincode_io.specs.Writers.{Took}
use Rattle.wincode_io.proofs.writer.Writer.write_slice_t.Given as goal

abbrev pub invariant-loop-value : goal.invariant-loop-value
invariant-loop-value g l = let W = g.Self.Writer in let T = g.T.ZeroCopy in record {
  took : Took (flat_map T.form (take l.value-index l.src)) (W.state l.fn.self) (W.state l.self);
  long : length (flat_map T.form (take l.value-index l.src)) ≡ l.value-index * T.size;
  room : length l.src * T.size ≤ W.room (W.state l.fn.self).content;
  ready : length l.src * T.size ≤ (W.state l.self).ready + l.value-index * T.size;
  is_valid : All T.is_valid (take l.value-index l.src);
}

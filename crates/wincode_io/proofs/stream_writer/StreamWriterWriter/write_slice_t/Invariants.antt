use Rattle.std.proofs.Common.{◌≡◌, ◌+◌, ◌*◌, ◌≤◌, ◌++◌, take, length}
use Rattle.std.specs.List.{All, flat_map}
use Rattle.wincode_io.specs.Writers.{Took, byte_limit}
use Rattle.wincode_io.specs.SinkWriters.{sink_writer, written_room, IsUnflushed, StaysFailed}
use Rattle.wincode_io.proofs.stream_writer.StreamWriterWriter.write_slice_t.Given as goal

-- so far the forms before the value were taken, there is room for all, and the sink was asked to make it alone
abbrev pub invariant-loop-value : goal.invariant-loop-value
invariant-loop-value g l = let S = g.S.Sink in let T = g.T.ZeroCopy in record {
  took : Took (flat_map T.form (take l.value-index l.src)) (sink_writer S.state l.fn.self) (sink_writer S.state l.self);
  long : length (flat_map T.form (take l.value-index l.src)) ≡ l.value-index * T.size;
  room : length l.src * T.size ≤ written_room (sink_writer S.state l.fn.self).content;
  ready : length l.src * T.size ≤ (sink_writer S.state l.self).ready + l.value-index * T.size;
  is_valid : All T.is_valid (take l.value-index l.src);
  served : length l.fn.self.kept + length l.src * T.size ≤ 8192 → l.fn.self.count + length l.src * T.size ≤ byte_limit
      → l.self.sink ≡ l.fn.self.sink;
  failed : StaysFailed l.fn.self l.self;
  kept : l.self.kept ≡ l.initial.self.kept ++ flat_map T.form (take l.value-index l.src);
  unflushed : IsUnflushed S.state l.fn.self l.self;
}

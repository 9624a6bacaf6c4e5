use Rattle.std.proofs.Common.{◌≡◌, ◌-◌, ◌≤◌, min, IsTrue}
use Rattle.wincode_io.specs.Readers.{IsSound}
use Rattle.wincode_io.specs.Streams.{stream_state}
use Rattle.wincode_io.specs.Writers.{byte_limit}
use Rattle.wincode.proofs.WholeParts.{SoFar}
use Rattle.wincode.proofs.logs.whole_length.Given as goal

-- so far the source didn't fail, and the values that were read are whole
abbrev pub invariant-loop : goal.invariant-loop
invariant-loop g l =
    let state = g.S.Source.state in
    let old = l.fn.reader in
    record {
      sound : IsSound (stream_state state old) (stream_state state l.reader);
      is_known : (state l.reader.source).is_known ≡ (state old.source).is_known;
      end : l.end ≡ min l.reader.position byte_limit;
      whole : IsTrue (state old.source).is_known → (old.position ≤ l.reader.position)
          × SoFar g.T.SchemaRead.reading.reads (stream_state state old).rest (stream_state state l.reader).rest (l.reader.position - old.position);
    }

use Rattle.std.proofs.Common.{refl}
use Rattle.wincode_io.proofs.Asked.{asked}
use Rattle.wincode_io.proofs.stream_reader.StreamReaderReader.as_trusted_for.Goals as goal

pub returns-clause-asks : goal.returns-clause-asks
returns-clause-asks g c = asked refl (rw c.ready.ensures at c.if-ready-n.false) c.fetch.ensures.asks c.in_ok-cut.ensures.unasked

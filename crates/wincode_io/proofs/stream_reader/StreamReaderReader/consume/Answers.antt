use Rattle.std.proofs.Common.{refl}
use Rattle.wincode_io.proofs.Asked.{asked}
use Rattle.wincode_io.proofs.stream_reader.StreamReaderReader.consume.Goals as goal

pub returns-then-n-ready-clause-asks : goal.returns-then-n-ready-clause-asks
returns-then-n-ready-clause-asks g c = asked refl (rw c.ready.ensures at c.if-n-ready.true) c.fetch.ensures.asks c.skip.ensures.unasked

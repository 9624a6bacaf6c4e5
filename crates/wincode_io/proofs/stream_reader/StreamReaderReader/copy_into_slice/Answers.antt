use Rattle.std.proofs.Common.{refl}
use Rattle.wincode_io.proofs.Asked.{asked}
use Rattle.wincode_io.proofs.stream_reader.StreamReaderReader.copy_into_slice.Goals as goal

pub returns-clause-asks : goal.returns-clause-asks
returns-clause-asks g c = asked refl c.in_ok-need.ensures.enough c.need.ensures.asks c.skip.ensures.unasked

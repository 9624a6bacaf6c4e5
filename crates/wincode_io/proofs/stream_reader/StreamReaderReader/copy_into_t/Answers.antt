use Rattle.wincode_io.proofs.Asked.{asked}
use Rattle.wincode_io.proofs.stream_reader.StreamReaderReader.copy_into_t.Goals as goal

pub returns-clause-asks : goal.returns-clause-asks
returns-clause-asks g c = let size = c.in_ok-size.ensures.enough in asked size.0 size.1 c.need_form.ensures.asks c.skip.ensures.unasked

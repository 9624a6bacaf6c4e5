use Rattle.wincode_io.proofs.Asked.{asked}
use Rattle.wincode_io.proofs.stream_reader.StreamReaderReader.copy_into_slice_t.Goals as goal

pub returns-clause-asks : goal.returns-clause-asks
returns-clause-asks g c = let total = c.in_ok-total.ensures.enough in asked total.0 total.1 c.need_forms.ensures.asks c.skip.ensures.unasked

use Rattle.wincode_base.specs.FixedSizeLaws.{arrays_takes}
use Rattle.wincode_base.proofs.reader.take_array.Goals as goal

pub returns-clause-ok : goal.returns-clause-ok
returns-clause-ok g c = arrays_takes _ _ _ _ _ c.in_ok-bytes.ensures.ok c.consume_unchecked.ensures

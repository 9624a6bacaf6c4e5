use Rattle.std.proofs.Common.{◌∙◌, ap, lit<}
use Rattle.std.specs.Int.{from_le_bytes, w32}
use Rattle.wincode_io.specs.NumberLaws.{from_le_bytes-worth}
use Rattle.wincode_io.proofs.zero_copy.numbers.U32ZeroCopy.of_form.Goals as goal

pub returns : goal.returns
returns c = c.from_le_bytes.ensures ∙ ap (from_le_bytes w32) c.whole_array.ensures ∙ from_le_bytes-worth w32 c.args.bytes.now (lit< tt) c.requires

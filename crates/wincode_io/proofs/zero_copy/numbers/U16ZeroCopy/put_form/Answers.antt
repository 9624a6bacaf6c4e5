use Rattle.std.proofs.Common.{◌∙◌}
use Rattle.std.specs.Int.{w16}
use Rattle.wincode_io.specs.NumberLaws.{to_le_bytes-le}
use Rattle.wincode_io.proofs.zero_copy.numbers.U16ZeroCopy.put_form.Goals as goal

pub returns-clause-form : goal.returns-clause-form
returns-clause-form c = c.copy_from_slice.ensures.after ∙ c.to_le_bytes.ensures ∙ to_le_bytes-le w16 _

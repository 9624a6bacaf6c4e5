use Rattle.std.proofs.Common.{◌∙◌, ◌<◌, rules}
use Rattle.wincode_io.specs.NumberLaws.{le-byte}
use Rattle.wincode_io.proofs.zero_copy.numbers.U8ZeroCopy.put_form.Goals as goal

pub returns-clause-form : goal.returns-clause-form
returns-clause-form c =
    let small : c.args.self.now < 256 = search rules in
    c.copy_from_slice.ensures.after ∙ c.to_le_bytes.ensures ∙ le-byte c.args.self.now small

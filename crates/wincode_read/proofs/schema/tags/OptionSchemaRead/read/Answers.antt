use Rattle.std.proofs.Common.{refl}
use Rattle.wincode_base.proofs.ReadAnswers.{read_refused}
use Rattle.wincode_read.proofs.schema.tags.OptionSchemaRead.read.Goals as goal

pub returns-in_err-get_option : goal.returns-in_err-get_option
returns-in_err-get_option g c =
    let same = c.in_default.ensures.none in
    let o = c.in_err-get_option.ensures in
    read_refused _ _ _ _ _ _ c.from_residual.ensures refl (rw same at o.refused.0, rw same at o.refused.1)

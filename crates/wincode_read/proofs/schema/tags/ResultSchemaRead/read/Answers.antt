use Rattle.std.proofs.Common.{refl}
use Rattle.wincode_base.proofs.ReadAnswers.{read_refused}
use Rattle.wincode_read.proofs.schema.tags.ResultSchemaRead.read.Goals as goal

pub returns-in_err-get_result : goal.returns-in_err-get_result
returns-in_err-get_result g c = read_refused _ _ _ _ _ _ c.from_residual.ensures refl c.in_err-get_result.ensures.refused

use Rattle.std.proofs.Common.{refl}
use Rattle.wincode_base.proofs.ReadAnswers.{read_refused}
use Rattle.wincode_read.proofs.schema.bounds.BoundSchemaRead.read.Goals as goal

pub returns-in_err-get_bound : goal.returns-in_err-get_bound
returns-in_err-get_bound g c = read_refused _ _ _ _ _ _ c.from_residual.ensures refl c.in_err-get_bound.ensures.refused

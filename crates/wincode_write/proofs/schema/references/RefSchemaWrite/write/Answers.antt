use Rattle.wincode_base.proofs.WriteAnswers.{reference_outcome}
use Rattle.wincode_write.proofs.schema.references.RefSchemaWrite.write.Goals as goal

pub returns : goal.returns
returns g c = reference_outcome g.T.SchemaWrite.writing _ _ _ c.write.ensures

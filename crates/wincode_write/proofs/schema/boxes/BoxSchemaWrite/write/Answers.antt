use Rattle.wincode_base.proofs.WriteAnswers.{held_outcome}
use Rattle.wincode_write.proofs.schema.boxes.BoxSchemaWrite.write.Goals as goal

pub returns : goal.returns
returns g c = held_outcome g.T.SchemaWrite.writing _ _ _ (rw c.as_ref.ensures at c.write.ensures)

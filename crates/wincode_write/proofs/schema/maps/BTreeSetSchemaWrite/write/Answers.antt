use Rattle.wincode_base.proofs.WriteAnswers.{sound_outcome}
use Rattle.wincode_write.proofs.schema.maps.BTreeSetSchemaWrite.write.Goals as goal

pub returns : goal.returns
returns g c =
    sound_outcome _ _ _ _ c.write_list.ensures.sound _ (rw (c.of-size.ensures, c.type_meta.ensures) at c.write_list.ensures.outcome)

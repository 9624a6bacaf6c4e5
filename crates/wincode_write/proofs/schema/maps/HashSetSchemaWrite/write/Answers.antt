use Rattle.wincode_base.specs.ItemSizes.{item_size}
use Rattle.wincode_base.specs.Lengths.{bincode, preallocation_limit}
use Rattle.wincode_base.specs.ScatteredLaws.{scattered_outcome}
use Rattle.wincode_base.proofs.WriteAnswers.{sound_outcome}
use Rattle.wincode_write.proofs.schema.maps.HashSetSchemaWrite.write.Goals as goal

pub returns : goal.returns
returns g c =
    let K = g.K.SchemaWrite in
    sound_outcome _ _ _ _ c.write_list.ensures.sound _ (scattered_outcome (bincode preallocation_limit) (item_size K.writing.meta)
    K.writing _ _ (rw (c.of-size.ensures, c.type_meta.ensures) at c.write_list.ensures.outcome))

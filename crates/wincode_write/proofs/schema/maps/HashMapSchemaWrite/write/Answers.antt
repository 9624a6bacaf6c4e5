use Rattle.wincode_base.specs.Lengths.{bincode, preallocation_limit}
use Rattle.wincode_base.specs.Pairs.{pair_write}
use Rattle.wincode_base.specs.ScatteredLaws.{scattered_outcome}
use Rattle.wincode_base.specs.ItemSizes.{pair_size}
use Rattle.wincode_base.proofs.WriteAnswers.{sound_outcome}
use Rattle.wincode_write.proofs.schema.maps.HashMapSchemaWrite.write.Goals as goal

pub returns : goal.returns
returns g c =
    let K = g.K.SchemaWrite in
    let V = g.V.SchemaWrite in
    let o = c.write_list.ensures in
    sound_outcome _ _ _ _ o.sound _ (scattered_outcome (bincode preallocation_limit) (pair_size K.writing.meta V.writing.meta) (pair_write K.writing V.writing)
    _ _
    (rw (c.of_pair-size.ensures, c.type_meta.ensures, c.type_meta-2.ensures) at o.outcome))

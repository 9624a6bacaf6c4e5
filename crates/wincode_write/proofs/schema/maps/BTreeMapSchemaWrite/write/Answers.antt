use Rattle.wincode_base.proofs.WriteAnswers.{sound_outcome}
use Rattle.wincode_write.proofs.schema.maps.BTreeMapSchemaWrite.write.Goals as goal

pub returns : goal.returns
returns g c =
    let o = c.write_list.ensures in
    sound_outcome _ _ _ _ o.sound _ (rw (c.of_pair-size.ensures, c.type_meta.ensures, c.type_meta-2.ensures) at o.outcome)

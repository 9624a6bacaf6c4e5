use Rattle.std.proofs.Common.{refl}
use Rattle.wincode_collect.specs.Collections.{IsHashSetOf}
use Rattle.wincode_collect.specs.Seen.{hash_set_sees, Made}
use Rattle.wincode_base.specs.Lengths.{bincode, preallocation_limit}
use Rattle.wincode_base.specs.ItemSizes.{item_size}
use Rattle.wincode_base.specs.GatheredLaws.{gathered_refused}
use Rattle.wincode_base.proofs.ReadAnswers.{read_refused}
use Rattle.wincode_read.proofs.schema.maps.HashSetSchemaRead.read.Goals as goal

pub returns-in_err-get_list : goal.returns-in_err-get_list
returns-in_err-get_list g c =
    let K = g.K.SchemaRead in
    let o = c.in_err-get_list.ensures in
    read_refused _ _ _ _ _ _ c.from_residual.ensures refl (gathered_refused K.model
    (Made (IsHashSetOf g.K.Dst.PartialEq.eq) (hash_set_sees g.K.Dst.PartialEq.eq K.model)) (bincode preallocation_limit) (item_size K.reading.meta)
    K.reading 1 _ _ _ o.refused)

use Rattle.std.proofs.Common.{map, refl}
use Rattle.wincode_collect.specs.Collections.{IsSetOf}
use Rattle.wincode_collect.specs.Seen.{Made}
use Rattle.wincode_base.specs.Lengths.{bincode, preallocation_limit}
use Rattle.wincode_base.specs.ItemSizes.{item_size}
use Rattle.wincode_base.specs.GatheredLaws.{gathered_refused}
use Rattle.wincode_base.proofs.ReadAnswers.{read_refused}
use Rattle.wincode_read.proofs.schema.maps.BTreeSetSchemaRead.read.Goals as goal

pub returns-in_err-get_list : goal.returns-in_err-get_list
returns-in_err-get_list g c =
    let K = g.K.SchemaRead in
    let o = c.in_err-get_list.ensures in
    read_refused _ _ _ _ _ _ c.from_residual.ensures refl (gathered_refused K.model (Made (IsSetOf g.K.Dst.Ord.cmp) (map K.model))
    (bincode preallocation_limit) (item_size K.reading.meta) K.reading 1 _ _ _ o.refused)

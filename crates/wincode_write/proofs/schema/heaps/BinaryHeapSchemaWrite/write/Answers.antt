use Rattle.wincode_base.specs.ItemSizes.{item_size}
use Rattle.wincode_base.specs.Lengths.{bincode, preallocation_limit}
use Rattle.wincode_base.specs.ScatteredLaws.{scattered_outcome}
use Rattle.wincode_write.proofs.schema.heaps.BinaryHeapSchemaWrite.write.Goals as goal

pub returns : goal.returns
returns g c =
    let T = g.T.SchemaWrite in
    scattered_outcome (bincode preallocation_limit) (item_size T.writing.meta) T.writing _ _ (rw (c.of-size.ensures, c.type_meta.ensures) at c.write_list.ensures.outcome)

use Rattle.std.proofs.Common.{refl}
use Rattle.std.specs.BinaryHeap.{heap_items}
use Rattle.std.specs.List.Sorted.{IsPermutation}
use Rattle.wincode_collect.specs.Seen.{heap_sees, Made}
use Rattle.wincode_base.specs.GatheredLaws.{gathered_refused, gathered_gives}
use Rattle.wincode_base.specs.ItemSizes.{item_size}
use Rattle.wincode_base.proofs.ReadAnswers.{read_refused}
use Rattle.wincode.proofs.containers.BinaryHeapSchemaRead.read.Goals as goal

pub returns-in_err-get_list : goal.returns-in_err-get_list
returns-in_err-get_list g c =
    let T = g.T.SchemaRead in
    let o = c.in_err-get_list.ensures in
    read_refused _ _ _ _ _ _ c.from_residual.ensures refl (gathered_refused T.model (Made IsPermutation (heap_sees T.model)) g.Len.SeqLen.scheme
    (item_size T.reading.meta) T.reading 1 _ _ _ o.refused)

pub returns : goal.returns
returns g c =
    let T = g.T.SchemaRead in
    let h = c.in_ok-get_list.ensures.ok in
    record {
      ok = gathered_gives T.model (Made IsPermutation (heap_sees T.model)) g.Len.SeqLen.scheme (item_size T.reading.meta) T.reading _ _ h.0 _ h.1
          (heap_items c.in_ok-get_list.field-0, h.2, refl);
      refused = tt;
      same = tt;
    }

use Rattle.std.proofs.Common.{map, refl}
use Rattle.wincode_collect.specs.Collections.{IsMapOf}
use Rattle.wincode_collect.specs.Seen.{sees, Made}
use Rattle.wincode_base.specs.Lengths.{bincode, preallocation_limit}
use Rattle.wincode_base.specs.Pairs.{pair_read}
use Rattle.wincode_base.specs.ItemSizes.{pair_size}
use Rattle.wincode_base.specs.GatheredLaws.{gathered_refused, gathered_gives}
use Rattle.wincode_base.proofs.ReadAnswers.{read_refused}
use Rattle.wincode_read.proofs.schema.maps.BTreeMapSchemaRead.read.Goals as goal

pub returns : goal.returns
returns g c =
    let K = g.K.SchemaRead in
    let V = g.V.SchemaRead in
    let h = (rw (c.of_pair-size.ensures, c.type_meta.ensures, c.type_meta-2.ensures) at c.in_ok-get_list_of.ensures).ok in
    record {
      ok = gathered_gives (sees K.model V.model) (Made (IsMapOf g.K.Dst.Ord.cmp) (map (sees K.model V.model))) (bincode preallocation_limit)
          (pair_size K.reading.meta V.reading.meta) (pair_read K.reading V.reading) _ _ h.0 _ h.1 (c.in_ok-get_list_of.field-0.entries, h.2, refl);
      refused = tt;
      same = tt;
    }

pub returns-in_err-get_list_of : goal.returns-in_err-get_list_of
returns-in_err-get_list_of g c =
    let K = g.K.SchemaRead in
    let V = g.V.SchemaRead in
    let o = rw (c.of_pair-size.ensures, c.type_meta.ensures, c.type_meta-2.ensures) at c.in_err-get_list_of.ensures in
    read_refused _ _ _ _ _ _ c.from_residual.ensures refl (gathered_refused (sees K.model V.model) (Made (IsMapOf g.K.Dst.Ord.cmp) (map (sees K.model V.model)))
    (bincode preallocation_limit) (pair_size K.reading.meta V.reading.meta) (pair_read K.reading V.reading) 1 _ _ _ o.refused)

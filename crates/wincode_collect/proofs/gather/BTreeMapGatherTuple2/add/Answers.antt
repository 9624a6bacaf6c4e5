use Rattle.wincode_collect.specs.CollectionLaws.{map_more}
use Rattle.wincode_collect.proofs.gather.BTreeMapGatherTuple2.add.Goals as goal

pub returns : goal.returns
returns g c = λ xs m. map_more g.K.Ord.cmp g.met.K.Ord.total xs _ _ _ _ m c.in_ok-insert.ensures.entries c.insert.ensures.ordered
    c.in_ok-insert.ensures.updates.0

use Rattle.wincode_collect.specs.CollectionLaws.{set_more}
use Rattle.wincode_collect.proofs.gather.BTreeSetGather.add.Goals as goal

pub returns : goal.returns
returns g c = λ xs m. set_more g.K.Ord.cmp g.met.K.Ord.total xs _ _ _ m c.in_ok-insert.ensures.keys c.insert.ensures.ordered

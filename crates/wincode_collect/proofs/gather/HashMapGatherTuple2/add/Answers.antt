use Rattle.wincode_collect.specs.CollectionLaws.{hash_more}
use Rattle.wincode_collect.proofs.gather.HashMapGatherTuple2.add.Goals as goal

pub returns : goal.returns
returns g c = λ xs m. hash_more g.K.PartialEq.eq g.met.K.Eq.laws xs _ _ _ _ _ m c.in_ok-insert.ensures.old c.in_ok-insert.ensures.entries
    c.insert.ensures.unique c.in_ok-insert.ensures.updates.0

use Rattle.wincode_collect.specs.CollectionLaws.{hash_set_more}
use Rattle.wincode_collect.proofs.gather.HashSetGather.add.Goals as goal

pub returns : goal.returns
returns g c = λ xs m. hash_set_more g.K.PartialEq.eq g.met.K.Eq.laws xs _ _ _ _ c.in_ok-insert.ensures.added c.in_ok-insert.ensures.keys
    c.insert.ensures.unique m

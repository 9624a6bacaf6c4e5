use Rattle.std.proofs.lemmas.List.Sorted.{IsPermutation-push_more}
use Rattle.wincode_collect.proofs.gather.BinaryHeapGather.add.Goals as goal

pub returns : goal.returns
returns g c = λ xs p. IsPermutation-push_more xs _ _ _ p c.in_ok-push.ensures.permutation

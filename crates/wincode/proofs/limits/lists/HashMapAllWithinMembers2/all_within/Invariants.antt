use Rattle.wincode_collect.specs.Seen.{sees}
use Rattle.wincode_base.specs.Pairs.{pair_write}
use Rattle.wincode.proofs.Within.{WithinSoFar}
use Rattle.wincode.proofs.limits.lists.HashMapAllWithinMembers2.all_within.Given as goal

-- so far each pair before those that are left is within its limits
abbrev pub invariant-loop-key : goal.invariant-loop-key
invariant-loop-key g l =
    let K = g.K.SchemaWrite in
    let V = g.V.SchemaWrite in
    WithinSoFar (pair_write K.writing V.writing).fits (sees K.model V.model) (λ e. K.is_valid e.0 × V.is_valid e.1) l.self.entries l.key-iterator

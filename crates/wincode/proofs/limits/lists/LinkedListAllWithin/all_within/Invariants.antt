use Rattle.wincode.proofs.Within.{WithinSoFar}
use Rattle.wincode.proofs.limits.lists.LinkedListAllWithin.all_within.Given as goal

-- so far each item before those that are left is within its limits
abbrev pub invariant-loop-item : goal.invariant-loop-item
invariant-loop-item g l = WithinSoFar g.T.SchemaWrite.writing.fits g.T.SchemaWrite.model g.T.SchemaWrite.is_valid l.self l.item-iterator

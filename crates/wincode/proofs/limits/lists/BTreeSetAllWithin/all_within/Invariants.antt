use Rattle.wincode.proofs.Within.{WithinSoFar}
use Rattle.wincode.proofs.limits.lists.BTreeSetAllWithin.all_within.Given as goal

-- so far each item before those that are left is within its limits
abbrev pub invariant-loop-key : goal.invariant-loop-key
invariant-loop-key g l = WithinSoFar g.K.SchemaWrite.writing.fits g.K.SchemaWrite.model g.K.SchemaWrite.is_valid l.self.keys l.key-iterator

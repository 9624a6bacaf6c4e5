use Rattle.wincode_base.proofs.Walks.{SumsSoFar}
use Rattle.wincode_write.proofs.schema.to_items.BTreeSetToItems.add_sizes.Given as goal

-- the sizes of the items before those that are left were added
abbrev pub invariant-loop-key : goal.invariant-loop-key
invariant-loop-key g l = SumsSoFar g.K.SchemaWrite.writing g.K.SchemaWrite.model l.before l.sum l.self.keys l.key-iterator

use Rattle.wincode_base.proofs.Walks.{SumsSoFar}
use Rattle.wincode_write.proofs.schema.to_items.LinkedListToItems.add_sizes.Given as goal

-- the sizes of the items before those that are left were added
abbrev pub invariant-loop-item : goal.invariant-loop-item
invariant-loop-item g l = SumsSoFar g.T.SchemaWrite.writing g.T.SchemaWrite.model l.before l.sum l.self l.item-iterator

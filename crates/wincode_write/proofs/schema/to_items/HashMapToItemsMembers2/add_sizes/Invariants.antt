use Rattle.wincode_collect.specs.Seen.{sees}
use Rattle.wincode_base.specs.Pairs.{pair_write}
use Rattle.wincode_base.proofs.Walks.{SumsSoFar}
use Rattle.wincode_write.proofs.schema.to_items.HashMapToItemsMembers2.add_sizes.Given as goal

-- the sizes of the pairs before those that are left were added
abbrev pub invariant-loop-key : goal.invariant-loop-key
invariant-loop-key g l = SumsSoFar (pair_write g.K.SchemaWrite.writing g.V.SchemaWrite.writing) (sees g.K.SchemaWrite.model g.V.SchemaWrite.model)
    l.before l.sum l.self.entries l.key-iterator

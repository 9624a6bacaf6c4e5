use Rattle.wincode_collect.specs.Seen.{sees}
use Rattle.wincode_base.specs.Pairs.{pair_write}
use Rattle.wincode_base.proofs.Walks.{WritesSoFar}
use Rattle.wincode_write.proofs.schema.to_items.BTreeMapToItemsMembers2.write_to.Given as goal

-- the pairs before those that are left were written
abbrev pub invariant-loop-key : goal.invariant-loop-key
invariant-loop-key g l =
    let K = g.K.SchemaWrite in
    let V = g.V.SchemaWrite in
    WritesSoFar (pair_write K.writing V.writing) (sees K.model V.model) (λ e. K.is_valid e.0 × V.is_valid e.1) (g.W.Writer.state l.fn.writer)
    (g.W.Writer.state l.writer) l.self.entries l.key-iterator

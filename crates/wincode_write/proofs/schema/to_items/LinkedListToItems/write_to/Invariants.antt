use Rattle.wincode_base.proofs.Walks.{WritesSoFar}
use Rattle.wincode_write.proofs.schema.to_items.LinkedListToItems.write_to.Given as goal

-- the items before those that are left were written
abbrev pub invariant-loop-item : goal.invariant-loop-item
invariant-loop-item g l =
    WritesSoFar g.T.SchemaWrite.writing g.T.SchemaWrite.model g.T.SchemaWrite.is_valid (g.W.Writer.state l.fn.writer) (g.W.Writer.state l.writer)
    l.self l.item-iterator

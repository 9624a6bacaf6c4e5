use Rattle.wincode_base.proofs.Walks.{WritesSoFar}
use Rattle.wincode_write.proofs.schema.to_items.BTreeSetToItems.write_to.Given as goal

-- the items before those that are left were written
abbrev pub invariant-loop-key : goal.invariant-loop-key
invariant-loop-key g l =
    WritesSoFar g.K.SchemaWrite.writing g.K.SchemaWrite.model g.K.SchemaWrite.is_valid (g.W.Writer.state l.fn.writer) (g.W.Writer.state l.writer)
    l.self.keys l.key-iterator

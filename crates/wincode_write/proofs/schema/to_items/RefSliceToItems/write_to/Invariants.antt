use Rattle.std.proofs.Common.{◌<◌, length}
use Rattle.wincode_base.proofs.Walks.{WritesSoFar}
use Rattle.wincode_write.proofs.schema.to_items.RefSliceToItems.write_to.Given as goal

abbrev pub decreases-loop-rest : goal.decreases-loop-rest
decreases-loop-rest g l = length l.rest

-- the items before those that are left were written, and some go on at a time
abbrev pub invariant-loop-rest : goal.invariant-loop-rest
invariant-loop-rest g l = let T = g.T.SchemaWrite in WritesSoFar T.writing T.model T.is_valid (g.W.Writer.state l.fn.writer) (g.W.Writer.state l.writer)
    l.fn.self.now l.rest × (0 < l.apart)

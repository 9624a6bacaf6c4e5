use Rattle.std.proofs.Common.{take, map}
use Rattle.wincode_io.specs.Joins.{Each}
use Rattle.wincode_base.specs.Lists.{items_write}
use Rattle.wincode_base.specs.Outcomes.{Wrote}
use Rattle.wincode_write.proofs.schema.to_items.write_apart.Given as goal

-- so far the items were written
abbrev pub invariant-loop-item : goal.invariant-loop-item
invariant-loop-item g l =
    Wrote (items_write g.T.SchemaWrite.writing) (g.W.Writer.state l.fn.writer) (g.W.Writer.state l.writer)
    (map g.T.SchemaWrite.model (take l.item-index l.items))
    × Each g.T.SchemaWrite.is_valid (take l.item-index l.items)

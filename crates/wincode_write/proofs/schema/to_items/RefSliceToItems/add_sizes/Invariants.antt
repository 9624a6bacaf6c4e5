use Rattle.std.proofs.Common.{◌≡◌, ◌+◌, take, map}
use Rattle.wincode_write.proofs.schema.to_items.RefSliceToItems.add_sizes.Given as goal
use Rattle.wincode_io.specs.Joins.{Each, total}

-- so far the items can be written, and their sizes are added
abbrev pub invariant-loop-item : goal.invariant-loop-item
invariant-loop-item g l =
    Each g.T.SchemaWrite.writing.can (map g.T.SchemaWrite.model (take l.item-index l.items))
    × (l.sum ≡ l.before + total g.T.SchemaWrite.writing.size (map g.T.SchemaWrite.model (take l.item-index l.items)))

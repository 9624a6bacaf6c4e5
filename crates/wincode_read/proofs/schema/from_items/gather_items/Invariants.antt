use Rattle.std.proofs.Common.{List, map}
use Rattle.wincode_base.specs.Outcomes.{Gives}
use Rattle.wincode_read.proofs.schema.from_items.gather_items.Given as goal
use Rattle.wincode_io.specs.Joins.{AreItems}

-- so far the items of a front were read, and the collection is made of them
abbrev pub invariant-loop-i : goal.invariant-loop-i
invariant-loop-i g l = (ds : List g.row.T-Dst.Denot)
    × Gives (AreItems l._i g.T.SchemaRead.reading.reads) (g.R.Reader.state l.fn.reader) (g.R.Reader.state l.reader) (map g.T.SchemaRead.model ds)
    × g.C.Gather.made ds l.gathered

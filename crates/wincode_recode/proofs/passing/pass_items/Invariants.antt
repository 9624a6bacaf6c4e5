use Rattle.std.proofs.Common.{◌≡◌, List, length, map}
use Rattle.wincode_io.specs.Joins.{AreItems}
use Rattle.wincode_base.specs.Lists.{items_write}
use Rattle.wincode_recode.specs.Passing.{Passed}
use Rattle.wincode_recode.proofs.passing.pass_items.Given as goal

-- so far as many values were passed on
abbrev pub invariant-loop-i : goal.invariant-loop-i
invariant-loop-i g l =
    let T = g.T in
    (values : List g.row.T-Src.Denot) × (length values ≡ l._i)
    × Passed (map T.SchemaRead.model) (AreItems l._i T.SchemaRead.reading.reads) (map T.SchemaWrite.model) (items_write T.SchemaWrite.writing)
    (g.R.Reader.state l.fn.reader) (g.R.Reader.state l.reader) (g.W.Writer.state l.fn.writer) (g.W.Writer.state l.writer) values

use Rattle.wincode_base.specs.Outcomes.{Adds}
use Rattle.wincode_read.proofs.schema.at_hand.add_each.Given as goal

-- so far the values of a front were read and added
abbrev pub invariant-loop-i : goal.invariant-loop-i
invariant-loop-i g l = Adds l._i g.T.SchemaRead.reading.reads g.T.SchemaRead.model (g.R.Reader.state l.fn.reader) (g.R.Reader.state l.reader)
    l.fn.into.items l.into.items

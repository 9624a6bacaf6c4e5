use Rattle.wincode_describe.proofs.Left.{Counts}
use Rattle.wincode_describe.proofs.streaming.bytes_left.Given as goal

-- so far so many bytes are gone
abbrev pub invariant-loop-i : goal.invariant-loop-i
invariant-loop-i g l = Counts (g.R.Reader.state l.fn.reader) (g.R.Reader.state l.reader) l.left

use Rattle.std.proofs.Common.{ℕ, ◌+◌, ◌*◌, ◌≤◌, List}
use Rattle.wincode_io.specs.Writers.{Took}
use Rattle.testkit_schemas.specs.Block.{AreZeros}
use Rattle.testkit_schemas.proofs.block.write_zeros.Given as goal

-- so far as many zeros were written as so many pieces have, and there is room for the others
abbrev pub invariant-loop-i : goal.invariant-loop-i
invariant-loop-i g l =
    ((bytes : List ℕ) × AreZeros (l._i * 64) bytes × Took bytes (g.W.Writer.state l.fn.writer) (g.W.Writer.state l.writer))
    × (l.pieces * 64 ≤ (g.W.Writer.state l.writer).ready + l._i * 64)

use Rattle.std.proofs.Common.{length}
use Rattle.wincode_base.proofs.Walks.{WritesSoFar}
use Rattle.wincode_base.specs.Strings.{reference_write}
use Rattle.wincode_write.proofs.schema.made.runs.write_blocks.Given as goal

abbrev pub decreases-loop-rest : goal.decreases-loop-rest
decreases-loop-rest g l = length l.rest

-- the items before those that are left were written
abbrev pub invariant-loop-rest : goal.invariant-loop-rest
invariant-loop-rest g l = let A = g.A.SchemaWrite in let T = g.T.ToParts in WritesSoFar (reference_write A.writing) (λ x. A.model (T.parts x))
    (λ x. T.sound x × A.is_valid (T.parts x)) (g.W.Writer.state l.fn.writer) (g.W.Writer.state l.writer) l.items l.rest

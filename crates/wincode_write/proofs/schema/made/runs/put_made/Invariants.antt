use Rattle.std.proofs.Common.{◌*◌}
use Rattle.wincode_base.specs.Strings.{reference_write}
use Rattle.wincode_write.proofs.Fronts.{FilledSoFar}
use Rattle.wincode_write.proofs.schema.made.runs.put_made.Given as goal

-- so far the items before i are encoded, over the first bytes
abbrev pub invariant-loop-i : goal.invariant-loop-i
invariant-loop-i g l = let A = g.A.SchemaWrite in let T = g.T.ToParts in FilledSoFar (reference_write A.writing) (λ x. A.model (T.parts x))
    (λ x. T.sound x × A.is_valid (T.parts x)) l.i (l.i * l.size) l.items l.dst

use Rattle.wincode_write.proofs.Fronts.{FilledSoFar}
use Rattle.wincode_write.proofs.schema.runs.encode_first.Given as goal

-- so far the items before i are encoded, over the first bytes
abbrev pub invariant-loop-i : goal.invariant-loop-i
invariant-loop-i g l = let T = g.T.SchemaWrite in FilledSoFar T.writing T.model T.is_valid l.i l.filled l.items l.dst

use Rattle.std.proofs.Common.{◌*◌}
use Rattle.wincode_write.proofs.Fronts.{FilledSoFar}
use Rattle.wincode_write.proofs.schema.SchemaWrite.put_items.Given as goal

-- so far the items before i are encoded, over the first bytes
abbrev pub invariant-loop-i : goal.invariant-loop-i
invariant-loop-i g l = let T = g.Self.SchemaWrite in FilledSoFar T.writing T.model T.is_valid l.i (l.i * l.size) l.items l.dst

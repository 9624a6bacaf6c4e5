use Rattle.std.proofs.Common.{take}
use Rattle.wincode_io.specs.Joins.{Each}
use Rattle.wincode.proofs.limits.lists.RefSliceAllWithin.all_within.Given as goal

-- so far each item is within its limits
abbrev pub invariant-loop-item : goal.invariant-loop-item
invariant-loop-item g l = let T = g.T.SchemaWrite in Each (λ e. T.is_valid e → T.writing.fits (T.model e)) (take l.item-index l.items)

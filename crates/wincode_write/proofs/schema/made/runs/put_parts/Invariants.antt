use Rattle.std.proofs.Common.{◌≡◌, take, map}
use Rattle.wincode_io.specs.Joins.{Each}
use Rattle.wincode_write.proofs.schema.made.runs.put_parts.Given as goal

-- so far the parts of the first i items were put
abbrev pub invariant-loop-i : goal.invariant-loop-i
invariant-loop-i g l =
    (take l.i l.places ≡ map g.T.ToParts.parts (take l.i l.items)) × Each g.T.ToParts.sound (take l.i l.items)

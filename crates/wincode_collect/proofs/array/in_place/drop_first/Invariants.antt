use Prim.Native.Nat.{◌-◌, ◌≤◌}
use Rattle.core.specs.Mem.Slots.{SamePlaces}
use Rattle.core.specs.Mem.Slots.Ownership.{Filled}
use Rattle.wincode_collect.proofs.array.in_place.drop_first.Given as goal

abbrev pub invariant-loop-i : goal.invariant-loop-i
invariant-loop-i g l = SamePlaces l.fn.row l.row × (l.count ≤ l.row.len) × Filled l.row.filled l.i l.count

abbrev pub decreases-loop-i : goal.decreases-loop-i
decreases-loop-i g l = l.count - l.i

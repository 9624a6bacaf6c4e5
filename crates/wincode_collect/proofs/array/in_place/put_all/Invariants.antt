use lib.ListN.{take}
use Prim.Native.Nat.{◌-◌, ◌≤◌}
use mathlib.Core.Path.{◌≡◌}
use Rattle.core.specs.Mem.Slots.{SamePlaces}
use Rattle.core.specs.Mem.Slots.Ownership.{Filled}
use Rattle.wincode_collect.specs.Calls.{GaveEach}
use Rattle.wincode_collect.proofs.array.in_place.put_all.Given as goal

abbrev pub invariant-loop-i : goal.invariant-loop-i
invariant-loop-i g l = SamePlaces l.fn.row l.row × (l.count ≡ l.row.len) × (l.i ≤ l.count) × Filled l.row.filled 0 l.i
    × GaveEach g.F.Fill.gives l.fn.f (take l.i l.row.items) l.f

abbrev pub decreases-loop-i : goal.decreases-loop-i
decreases-loop-i g l = l.count - l.i

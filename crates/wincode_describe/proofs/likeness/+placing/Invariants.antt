use Rattle.std.proofs.Common.{◌≡◌, ◌+◌, length}
use Rattle.wincode_describe.specs.Compared.{heads, repeated}
use Rattle.wincode_describe.proofs.likeness.+placing.Given as goal

-- so many items stand before the place
abbrev pub invariant-item_head_at-loop-i : goal.invariant-item_head_at-loop-i
invariant-item_head_at-loop-i l = l.fn.i ≡ length (repeated l._i (heads l.fn.item)) + l.place

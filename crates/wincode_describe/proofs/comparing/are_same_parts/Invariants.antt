use Rattle.std.proofs.Common.{◌≡◌, ◌<◌, ℕ, map}
use Rattle.std.specs.Prelude.{slice_get}
use Rattle.wincode_describe.specs.Parts.{seen}
use Rattle.wincode_describe.proofs.comparing.are_same_parts.Given as goal

-- those so far are the same
abbrev pub invariant-loop-i : goal.invariant-loop-i
invariant-loop-i l = (j : ℕ) → j < l.i → slice_get (map seen l.fn.parts) j ≡ slice_get (map seen l.fn.others) j

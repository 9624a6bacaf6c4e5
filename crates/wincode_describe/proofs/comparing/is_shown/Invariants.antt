use Rattle.std.proofs.Common.{◌≡◌, ℕ, List, true}
use Rattle.wincode_describe.specs.Compared.{IsWitness}
use Rattle.wincode_describe.proofs.comparing.is_shown.Given as goal

-- so far, if one was shown, there is one
abbrev pub invariant-loop-change : goal.invariant-loop-change
invariant-loop-change l = l.is_shown ≡ true → (bytes : List ℕ) × IsWitness l.fn.old l.fn.new bytes

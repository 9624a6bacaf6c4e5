use Rattle.std.proofs.Common.{length, ◌≡◌, ◌≤◌, drop}
use Rattle.wincode_c.specs.Pages.{behind_lines}
use Rattle.wincode_c.proofs.pages.fitting.Given as goal

abbrev pub invariant-loop-rest : goal.invariant-loop-rest
invariant-loop-rest l = (l.rest ≡ drop l.taken l.text) × (drop l.taken l.text ≡ behind_lines l.lines l.text) × (l.taken ≤ length l.text) × (l.taken ≤ l.room) × (l.lines ≤ l.taken)

abbrev pub decreases-loop-rest : goal.decreases-loop-rest
decreases-loop-rest l = length l.rest

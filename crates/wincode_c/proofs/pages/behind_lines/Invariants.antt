use Rattle.std.proofs.Common.{◌-◌, ◌≡◌}
use Rattle.wincode_c.specs.Pages.{behind_lines}
use Rattle.wincode_c.proofs.pages.behind_lines.Given as goal

abbrev pub invariant-loop-i : goal.invariant-loop-i
invariant-loop-i l = behind_lines (l.count - l._i) l.rest ≡ behind_lines l.count l.text

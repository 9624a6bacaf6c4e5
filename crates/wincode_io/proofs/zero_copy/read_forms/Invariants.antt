use Rattle.std.proofs.Common.{◌≡◌, ℕ, ◌<◌, get_or}
use Rattle.wincode_io.specs.Forms.{part}
use Rattle.wincode_io.proofs.zero_copy.read_forms.Given as goal

abbrev pub invariant-loop-i : goal.invariant-loop-i
invariant-loop-i g l = (k : ℕ) (d : g.row.T.Denot) → k < l.i → get_or l.dst k d ≡ g.T.ZeroCopy.value (part g.T.ZeroCopy.size l.bytes k)

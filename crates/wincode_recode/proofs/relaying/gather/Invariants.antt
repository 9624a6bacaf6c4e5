use Rattle.std.proofs.Common.{◌-◌, length}
use Rattle.std.specs.Io.KnownBytes.{Consumes}
use Rattle.wincode_io.specs.Writers.{byte_limit}
use Rattle.wincode_recode.proofs.relaying.gather.Given as goal

-- so far what the input gave was kept
abbrev pub invariant-loop-bytes : goal.invariant-loop-bytes
invariant-loop-bytes g l = Consumes (g.R.Read.remaining l.fn.input) (g.R.Read.remaining l.input) l.bytes.items

-- each turn but the last keeps a byte
abbrev pub decreases-loop-bytes : goal.decreases-loop-bytes
decreases-loop-bytes g l = byte_limit - length l.bytes.items

use Rattle.std.proofs.Common.{◌≡◌, take}
use Rattle.wincode_io.specs.Joins.{Each}
use Rattle.testkit_schemas.proofs.block.is_zero.Given as goal

-- so far all bytes are zero
abbrev pub invariant-loop-byte : goal.invariant-loop-byte
invariant-loop-byte l = Each (λ d. d ≡ 0) (take l.byte-index l.bytes)

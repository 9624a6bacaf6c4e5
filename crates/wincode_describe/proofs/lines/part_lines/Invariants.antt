use Rattle.std.proofs.Common.{◌≡◌, length, map}
use Rattle.std.specs.String.{string_bytes}
use Rattle.wincode_describe.specs.Lines.{AreLines}
use Rattle.wincode_describe.proofs.lines.part_lines.Given as goal

-- so far each part has its line, where there are as many as spans
abbrev pub invariant-loop-i : goal.invariant-loop-i
invariant-loop-i l = length l.parts ≡ length l.spans → AreLines (map (λ s. s.offset) l.spans) (map string_bytes l.places) l.i (string_bytes l.text)

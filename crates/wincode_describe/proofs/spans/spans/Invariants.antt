use Rattle.std.proofs.Common.{◌≡◌, map, length, take}
use Rattle.wincode_describe.specs.Parts.{seen, parts_bytes}
use Rattle.wincode_describe.specs.Spans.{AreSpans}
use Rattle.wincode_describe.proofs.spans.spans.Given as goal

-- so far each part's span was added, and the next stands behind them
abbrev pub invariant-loop-part : goal.invariant-loop-part
invariant-loop-part l = (l.offset ≡ length (parts_bytes (map seen (take l.part-index l.parts))))
    × AreSpans 0 (map seen (take l.part-index l.parts)) l.spans.items

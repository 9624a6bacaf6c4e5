use Rattle.std.specs.String.{string_bytes}
use Rattle.wincode_describe.proofs.LineParts.{lines_more}
use Rattle.wincode_describe.proofs.lines.part_lines.Goals as goal

pub loop-i-preserved : goal.loop-i-preserved
loop-i-preserved c = λ same.
    lines_more c.args.spans.now c.args.places.now c.loop-i.i c.place_at.result.now (string_bytes c.loop-i.text) (string_bytes c.push_line.new.text)
    c.place_at.ensures (c.loop-i.invariant same) c.in_ok-push_line.ensures

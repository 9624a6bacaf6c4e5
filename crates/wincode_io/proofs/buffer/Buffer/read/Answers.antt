use Rattle.std.proofs.Common.{rules, ◌≡◌, ◌∙◌, ap, ◌+◌}
use Rattle.std.specs.Arc.{arc_value}
use Rattle.std.specs.List.{slice_range}
use Rattle.wincode_io.proofs.Ranges.{same_front, came_behind, range_length}
use Rattle.wincode_io.proofs.buffer.Buffer.read.Goals as goal

pub returns-in-Ok-clause-ok : goal.returns-in-Ok-clause-ok
returns-in-Ok-clause-ok g c =
    let bytes = c.read_alone.new.bytes.items in
    let at = c.self.inside.end in
    let within = c.in-Ok.ensures.within in
    let was : c.in-Some.alone.now.items ≡ (arc_value c.self.inside.bytes).items = search rules in
    let view : slice_range c.in-Some.alone.now.items c.self.inside.place at ≡ c.args.self.now =
    ap (λ l. slice_range l c.self.inside.place at) was ∙ c.self.view_is in
    record {
      piece = slice_range bytes at (at + c.in-Ok.n);
      behind = came_behind c.in-Some.alone.now.items bytes c.args.self.now c.self.inside.place at c.in-Ok.n c.self.invariant.0 c.in-Ok.ensures.front view;
      size = range_length bytes at c.in-Ok.n within.0;
      step = within.1;
      gave = c.in-Ok.ensures.ok;
    }

pub returns-in-Err-clause-kept : goal.returns-in-Err-clause-kept
returns-in-Err-clause-kept g c =
    let place = c.self.inside.place in
    let at = c.self.inside.end in
    let was : c.in-Some.alone.now.items ≡ (arc_value c.self.inside.bytes).items = search rules in
    same_front c.read_alone.new.bytes.items c.in-Some.alone.now.items place at c.self.invariant.0 c.in-Err.ensures.front
    ∙ (ap (λ l. slice_range l place at) was ∙ c.self.view_is)

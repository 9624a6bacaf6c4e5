use Rattle.std.proofs.Common.{◌+◌, ◌-◌, ◌∙◌, arith}
use Rattle.std.specs.List.{slice_range}
use Rattle.wincode_io.proofs.Ranges.{same_front, came_behind, range_length}
use Rattle.wincode_io.proofs.buffer.Buffer.read_moved.Goals as goal

pub returns-in-Ok-clause-ok : goal.returns-in-Ok-clause-ok
returns-in-Ok-clause-ok g c =
    let at = c.in_ok-place.place + (c.self.inside.end - c.self.inside.place) in
    let bytes = c.read_behind.new.bytes.value.items in
    let within = c.in-Ok.ensures.within in
    record {
      piece = slice_range bytes at (at + c.in-Ok.n);
      behind = came_behind c.make_room.new.bytes.value.items bytes c.args.self.now c.in_ok-place.place at c.in-Ok.n (omega arith) c.in-Ok.ensures.front
          (c.in_ok-place.ensures.same ∙ c.self.view_is);
      size = range_length bytes at c.in-Ok.n within.0;
      step = within.1;
      gave = c.in-Ok.ensures.ok;
    }

pub returns-in-Err-clause-kept : goal.returns-in-Err-clause-kept
returns-in-Err-clause-kept g c =
    let at = c.in_ok-place.place + (c.self.inside.end - c.self.inside.place) in
    same_front c.read_behind.new.bytes.value.items c.make_room.new.bytes.value.items c.in_ok-place.place at (omega arith) c.in-Err.ensures.front
    ∙ (c.in_ok-place.ensures.same ∙ c.self.view_is)

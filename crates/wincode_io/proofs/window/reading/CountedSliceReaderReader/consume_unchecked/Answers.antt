use Rattle.std.proofs.Common.{true, arith}
use Rattle.std.specs.Arc.{arc_value}
use Rattle.wincode_io.specs.Readers.{nothing}
use Rattle.wincode_io.proofs.WindowSteps.{passed}
use Rattle.wincode_io.proofs.window.reading.CountedSliceReaderReader.consume_unchecked.Goals as goal

pub returns : goal.returns
returns g c =
    let w = c.self.inside in
    let all = (arc_value w.all).items in
    passed nothing true c.args.n all c.args.self.now w.place w.end (c.self.invariant.0, omega (arith, c.self.invariant.1)) c.self.view_is c.requires

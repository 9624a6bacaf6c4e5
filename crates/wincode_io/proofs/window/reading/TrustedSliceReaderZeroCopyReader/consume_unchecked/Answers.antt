use Rattle.std.proofs.Common.{false}
use Rattle.wincode_io.specs.Readers.{shared}
use Rattle.wincode_io.proofs.WindowSteps.{passed}
use Rattle.wincode_io.proofs.window.reading.TrustedSliceReaderZeroCopyReader.consume_unchecked.Goals as goal

pub returns : goal.returns
returns g c =
    let w = c.self.inside in
    passed shared false c.args.n (g.L.Lending.held w.all) c.args.self.now w.place w.end c.self.invariant c.self.view_is c.requires

use Rattle.std.proofs.Common.{false, arith}
use Rattle.wincode_io.specs.Readers.{shared}
use Rattle.wincode_io.proofs.WindowSteps.{refused, taken}
use Rattle.wincode_io.proofs.window.reading.TrustedSliceReaderZeroCopyReader.borrow_exact.Goals as goal

pub returns-then-n-self-clause-ok : goal.returns-then-n-self-clause-ok
returns-then-n-self-clause-ok g c =
    let w = c.self.inside in
    let all = g.L.Lending.held w.all in
    record {
      lends = omega arith;
      takes = taken shared false c.args.n all c.args.self.now w.place w.end c.self.invariant c.self.view_is c.if-n-self.true _ c.part.ensures;
    }

pub returns-else-n-self-clause-err : goal.returns-else-n-self-clause-err
returns-else-n-self-clause-err g c =
    let w = c.self.inside in
    refused shared false c.args.n (g.L.Lending.held w.all) c.args.self.now w.place w.end c.self.invariant c.self.view_is c.if-n-self.false

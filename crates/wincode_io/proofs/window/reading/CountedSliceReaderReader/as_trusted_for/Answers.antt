use Rattle.std.proofs.Common.{◌+◌, true, ap, arith}
use Rattle.std.specs.Arc.{arc_value}
use Rattle.std.specs.List.{slice_range}
use Rattle.wincode_io.specs.Readers.{nothing}
use Rattle.wincode_io.proofs.WindowSteps.{refused, windowed}
use Rattle.wincode_io.proofs.window.reading.CountedSliceReaderReader.as_trusted_for.Goals as goal

pub returns-clause-ok : goal.returns-clause-ok
returns-clause-ok g c =
    let w = c.self.inside in
    let all = (arc_value w.all).items in
    windowed nothing true c.args.n all c.args.self.now w.place w.end (c.self.invariant.0, omega (arith, c.self.invariant.1)) c.self.view_is
    c.if-self-place.false _ (ap (λ v. slice_range v.items w.place (w.place + c.args.n)) c.in-Ok.ensures)

pub returns-then-self-place-clause-err : goal.returns-then-self-place-clause-err
returns-then-self-place-clause-err g c =
    let w = c.self.inside in
    let all = (arc_value w.all).items in
    refused nothing true c.args.n all c.args.self.now w.place w.end (c.self.invariant.0, omega (arith, c.self.invariant.1)) c.self.view_is c.if-self-place.true

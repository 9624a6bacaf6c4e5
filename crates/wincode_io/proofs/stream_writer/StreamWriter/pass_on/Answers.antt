use Rattle.std.proofs.Common.{rules, ap, refl, length, arith, length-drop}
use Rattle.wincode_io.specs.SinkWriters.{Written}
use Rattle.wincode_io.proofs.SinkFronts.{passed_same}
use Rattle.wincode_io.proofs.stream_writer.StreamWriter.pass_on.Goals as goal

pub returns-in-Some-clause-unmoved : goal.returns-in-Some-clause-unmoved
returns-in-Some-clause-unmoved g c =
    let all = passed_same _ _ _ _ _ _ c.pass-passed.ensures.sent c.as_slice.ensures.value c.drop_front.ensures.items in
    rw (← c.self.view_is) (record {
      same = record { kept = refl; never_fails = refl; finishes = refl };
      content = ap {B = Written} (λ b. record { bytes = b; count = c.self.inside.count }) all;
    })

pub returns-in-Some-clause-err : goal.returns-in-Some-clause-err
returns-in-Some-clause-err g c =
    let failed = rw c.in-Some.is at c.pass-passed.ensures.failed in
    (returns-in-Some-clause-unmoved g c, (refl, λ before. search rules, λ _. failed.1), (refl, failed.0))

pub returns-in-Some-clause-fewer : goal.returns-in-Some-clause-fewer
returns-in-Some-clause-fewer g c =
    let left = ap length c.drop_front.ensures.items in
    let kept = ap (λ v. length v.kept) c.self.view_is in
    omega (arith, left, kept, length-drop c.pass-passed.result.taken c.self.inside.buffer.items)

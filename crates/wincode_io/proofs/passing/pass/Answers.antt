use Rattle.std.proofs.Common.{◌∙◌, arith}
use Rattle.wincode_io.proofs.SinkFronts.{passed_more, within_more}
use Rattle.wincode_io.proofs.passing.pass.Goals as goal

pub loop-taken-preserved : goal.loop-taken-preserved
loop-taken-preserved g c =
    let took = c.in-Ok.ensures.ok in
    let so_far = c.loop-taken.invariant in
    record {
      within = within_more c.args.bytes.now c.loop-taken.taken c.in-Ok.n so_far.within took.within;
      sent = passed_more _ _ _ c.args.bytes.now c.loop-taken.taken c.in-Ok.n so_far.sent took.sent;
      flushed = took.flushed ∙ so_far.flushed;
      failures = took.served (omega (arith, c.in-Ok.n-test)) ∙ so_far.failures;
    }

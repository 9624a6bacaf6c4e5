use Rattle.std.proofs.Common.{arith, refl}
use Rattle.testkit_schemas.specs.Block.{all_zero}
use Rattle.testkit_schemas.proofs.Zeros.{more_took}
use Rattle.testkit_schemas.proofs.block.write_zeros.Goals as goal

pub loop-i-preserved : goal.loop-i-preserved
loop-i-preserved g c =
    let W = g.met.W.Writer in (
      more_took W.writer_laws c.loop-i._i _ _ _ _ (omega (arith, c.requires, W.ready_room c.args.writer.now, c.loop-i-test.true)) (refl, all_zero 64)
          c.loop-i.invariant.0 c.write_ready.ensures.took,
      omega (arith, c.loop-i.invariant.1, c.write_ready.ensures.ready),
    )

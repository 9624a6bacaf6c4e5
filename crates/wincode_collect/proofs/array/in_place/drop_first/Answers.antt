use mathlib.Core.Path.{refl, ◌∙◌}
use mathlib.Core.Logic.{inl}
use mathlib.Core.Bool.{false}
use Prim.Native.Nat.{◌+◌}
use native.Mathlib.Omega.{arith}
use Rattle.core.proofs.slots.Fills.{Filled-apart, Filled-within}
use Rattle.wincode_collect.proofs.array.in_place.drop_first.Goals as goal

pub loop-i-init : goal.loop-i-init
loop-i-init g c = (record { start = refl; count = refl }, c.requires.0, c.requires.1)

pub take-requires : goal.take-requires
take-requires g c = (omega (arith, c.loop-i.invariant.1), c.loop-i.invariant.2 c.loop-i.i (omega arith) c.loop-i-test.true)

pub overflow_add-i : goal.overflow_add-i
overflow_add-i g c = omega arith

pub loop-i-smaller : goal.loop-i-smaller
loop-i-smaller g c = omega arith

pub loop-i-preserved : goal.loop-i-preserved
loop-i-preserved g c =
    let l = c.loop-i in let n = c.args.count in let told = c.take.ensures in (
      record { start = told.places.start ∙ l.invariant.0.start; count = told.places.count ∙ l.invariant.0.count },
      omega (arith, l.invariant.1, told.places.count),
      Filled-apart l.row.filled _ l.i false (l.i + 1) n told.filled (inl (omega arith))
          (Filled-within l.row.filled l.i n (l.i + 1) n (omega arith) (omega arith) l.invariant.2),
    )

pub returns : goal.returns
returns g c = c.loop-i.invariant.0

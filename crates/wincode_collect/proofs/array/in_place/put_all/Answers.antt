use mathlib.Core.Path.{◌≡◌, refl, sym, subst, ◌∙◌}
use mathlib.Core.List.{[], ◌∷◌, ◌++◌}
use Prim.Native.Nat.{◌+◌, ◌<◌}
use native.Mathlib.Omega.{arith}
use lib.ListN.{take}
use lib.Seq.{take_all, length-take-le}
use Rattle.core.proofs.slots.Fills.{Filled-put, Filled-none, Filled-within}
use Rattle.wincode_collect.specs.Calls.{GaveEach}
use Rattle.wincode_collect.proofs.Runs.{runs_more, placed}
use Rattle.wincode_collect.proofs.array.in_place.put_all.Goals as goal

pub loop-i-init : goal.loop-i-init
loop-i-init g c = (record { start = refl; count = refl }, c.len-count.ensures, omega arith, Filled-none _ 0 0 (omega arith), refl)

pub loop-i-preserved : goal.loop-i-preserved
loop-i-preserved g c =
    let l = c.loop-i in let x = c.in-Some.item in let told = c.put.ensures in
    let written : take (l.i + 1) c.put.new.self.items ≡ take l.i l.row.items ++ x ∷ [] =
    placed l.row.items c.put.new.self.items l.i x told.items (omega (arith, l.row.ok.0, l.invariant.1, c.loop-i-test.true)) in (
      record { start = told.places.start ∙ l.invariant.0.start; count = told.places.count ∙ l.invariant.0.count },
      l.invariant.1 ∙ sym told.places.count,
      omega (arith, c.loop-i-test.true),
      Filled-put l.row.filled _ l.i 0 (l.i + 1) told.filled (omega (arith, l.row.ok.1, l.invariant.1, c.loop-i-test.true)) l.invariant.3
          (Filled-none _ _ _ (omega arith)),
      subst (λ xs. GaveEach g.F.Fill.gives c.args.f.now xs c.next.new.self) (sym written)
          (runs_more g.F.Fill.gives _ (take l.i l.row.items) l.f c.next.new.self x l.invariant.4
          (subst (λ r. g.F.Fill.gives l.f r c.next.new.self) c.in-Some.is c.next.ensures)),
    )

pub returns-clause-items : goal.returns-clause-items
returns-clause-items g c =
    let l = c.loop-i in (
      Filled-within _ 0 l.i 0 l.row.len (omega arith) (omega (arith, l.invariant.1, c.loop-i-test.false)) l.invariant.3,
      subst (λ xs. GaveEach g.F.Fill.gives c.args.f.now xs l.f) (take_all l.i l.row.items (omega (arith, l.row.ok.0, l.invariant.1, c.loop-i-test.false)))
          l.invariant.4,
    )

pub returns-in-None-clause-items : goal.returns-in-None-clause-items
returns-in-None-clause-items g c =
    let l = c.loop-i in record {
      items = take l.i l.row.items;
      at = l.f;
      fewer = subst (λ k. k < c.args.row.len) (sym (length-take-le l.i l.row.items (omega (arith, l.row.ok.0, l.invariant.1, c.loop-i-test.true))))
          (omega (arith, c.loop-i-test.true, c.len-count.ensures));
      run = l.invariant.4;
      stop = subst (λ r. g.F.Fill.gives l.f r c.next.new.self) c.in-None.is c.next.ensures;
    }

use Rattle.std.proofs.Common.{[], ◌∷◌, ◌++◌, ◌≤◌, ◌+◌, arith}
use Rattle.std.proofs.lemmas.List.{map-append}
use Rattle.wincode_base.specs.Lists.{items_read}
use Rattle.wincode_base.specs.ListLaws.{items_none, items_refused, items_more, no_memory}
use Rattle.wincode_base.proofs.Items.{item_stopped, item_wanted}
use Rattle.wincode_base.proofs.Bulk.{went_well}
use Rattle.wincode_base.proofs.ReadAnswers.{make_refused}
use Rattle.wincode_read.proofs.schema.from_items.gather_items.Goals as goal

pub returns-in-Err : goal.returns-in-Err
returns-in-Err g c =
    let T = g.T.SchemaRead.reading in
    let none = items_none T.reads _ in
    record { ok = tt; refused = (no_memory _ _ _ _ _ _ none, λ dynamic. item_wanted c.args.n T 0 _ _ [] (omega arith) none) }

pub loop-i-init : goal.loop-i-init
loop-i-init g c = ([], items_none g.T.SchemaRead.reading.reads _, c.in-Ok.ensures)

pub returns-in_err-item : goal.returns-in_err-item
returns-in_err-item g c =
    let T = g.T.SchemaRead in
    let o = c.in_err-item.ensures in
    make_refused (items_read c.args.n T.reading) T.model _ _ _ c.from_residual.ensures (
      items_refused T.reading.reads g.met.T.SchemaRead.read_laws.one_front c.loop-i._i c.args.n T.reading.borrow T.reading.takes_no_memory c.loop-i-test.true _
          _ _ _ _ c.loop-i.invariant.1 o.refused.0,
      λ dynamic. item_stopped c.args.n T.reading c.loop-i._i _ _ _ _ _ c.loop-i-test.true c.loop-i.invariant.1 o.refused,
    )

pub returns-then-is_err : goal.returns-then-is_err
returns-then-is_err g c =
    let T = g.T.SchemaRead.reading in
    let all = items_more T.reads _ _ _ _ _ _ c.loop-i.invariant.1 c.in_ok-item.ensures.ok in
    let l : c.loop-i._i + 1 ≤ c.args.n = omega (arith, c.loop-i-test.true) in
    record { ok = tt; refused = (no_memory _ _ _ _ _ _ all, λ dynamic. item_wanted c.args.n T (c.loop-i._i + 1) _ _ _ l all) }

pub loop-i-preserved : goal.loop-i-preserved
loop-i-preserved g c =
    let T = g.T.SchemaRead.reading in
    let ds = c.loop-i.invariant.0 in (
      ds ++ (c.in_ok-item.item ∷ []),
      rw (map-append g.T.SchemaRead.model ds (c.in_ok-item.item ∷ [])) (items_more T.reads _ _ _ _ _ _ c.loop-i.invariant.1 c.in_ok-item.ensures.ok),
      went_well c.add.result c.if-is_err.ensures.negation c.add.ensures ds c.loop-i.invariant.2,
    )

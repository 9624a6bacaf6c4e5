use Rattle.std.proofs.Common.{refl, arith, ◌≡◌, ◌≤◌, ◌+◌, ◌∙◌, ◌++◌, ◌∷◌, []}
use Rattle.wincode_base.specs.Lists.{items_read}
use Rattle.wincode_base.specs.Outcomes.{SchemaReadRefused}
use Rattle.wincode_base.specs.ListLaws.{items_refused, items_more, no_memory}
use Rattle.wincode_base.proofs.Items.{adds_none, adds_more, item_stopped, item_wanted}
use Rattle.wincode_read.proofs.schema.at_hand.add_each.Goals as goal
use Rattle.wincode_base.proofs.ReadAnswers.{if_passed}

pub loop-i-init : goal.loop-i-init
loop-i-init g c = adds_none g.T.SchemaRead.reading.reads g.T.SchemaRead.model _ _ _ refl

pub loop-i-preserved : goal.loop-i-preserved
loop-i-preserved g c =
    let T = g.T.SchemaRead in
    let pushed : c.push.new.self.items ≡ c.loop-i.into.items ++ (c.in_ok-item.item ∷ []) = rw c.if-is_err.ensures.negation at c.push.ensures.items in
    adds_more T.reading.reads T.model _ _ _ _ _ _ _ _ c.loop-i.invariant c.in_ok-item.ensures.ok pushed

pub returns-in_err-item-clause-err : goal.returns-in_err-item-clause-err
returns-in_err-item-clause-err g c =
    let T = g.T.SchemaRead in
    let o = c.in_err-item.ensures in
    let h : SchemaReadRefused (items_read c.args.n T.reading) (g.R.Reader.state c.args.reader.now) (g.R.Reader.state c.get.new.reader) _ = (
      items_refused T.reading.reads g.met.T.SchemaRead.read_laws.one_front c.loop-i._i c.args.n T.reading.borrow T.reading.takes_no_memory c.loop-i-test.true _
          _ _ _ _ c.loop-i.invariant.gives o.refused.0,
      λ dynamic. item_stopped c.args.n T.reading c.loop-i._i _ _ _ _ _ c.loop-i-test.true c.loop-i.invariant.gives o.refused,
    ) in
    if_passed _ _ _ c.from_residual.ensures h

pub returns-in_err-item-clause-kept : goal.returns-in_err-item-clause-kept
returns-in_err-item-clause-kept g c = (c.loop-i.invariant.items, c.loop-i.invariant.is)

pub returns-then-is_err-clause-err : goal.returns-then-is_err-clause-err
returns-then-is_err-clause-err g c =
    let T = g.T.SchemaRead in
    let all = items_more T.reading.reads _ _ _ _ _ _ c.loop-i.invariant.gives c.in_ok-item.ensures.ok in
    let l : c.loop-i._i + 1 ≤ c.args.n = omega (arith, c.loop-i-test.true) in
    (no_memory _ _ _ _ _ _ all, λ dynamic. item_wanted c.args.n T.reading (c.loop-i._i + 1) _ _ _ l all)

pub returns-then-is_err-clause-kept : goal.returns-then-is_err-clause-kept
returns-then-is_err-clause-kept g c =
    let kept : c.push.new.self.items ≡ c.loop-i.into.items = rw c.if-is_err.ensures.negation at c.push.ensures.items in
    (c.loop-i.invariant.items, kept ∙ c.loop-i.invariant.is)

use Rattle.std.proofs.Common.{rules}
use Rattle.wincode_base.proofs.Lists.{item_joined, item_unjoined}
use Rattle.wincode_write.proofs.schema.to_items.RefSliceToItems.add_sizes.Goals as goal

pub returns-in_err-sum-clause-err : goal.returns-in_err-sum-clause-err
returns-in_err-sum-clause-err g c =
    let T = g.T.SchemaWrite in
    let h = item_unjoined c.args.before T.writing T.model c.args.self.now.now c.loop-item.item-index c.item-item.result c.loop-item-test.true c.item-item.is
    _ _ c.loop-item.invariant.1 c.size_of.ensures.ok _ c.size_of.ensures.err c.in_err-sum.ensures.err in search (rules, h)

pub loop-item-preserved : goal.loop-item-preserved
loop-item-preserved g c =
    let T = g.T.SchemaWrite in
    item_joined c.args.before T.writing T.model c.args.self.now.now c.loop-item.item-index c.item-item.result c.loop-item-test.true c.item-item.is
    _ _ c.loop-item.invariant.1 c.size_of.ensures.ok _ c.loop-item.invariant.0 c.in_ok-sum.ensures.ok

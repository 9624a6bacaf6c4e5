use Rattle.std.proofs.Common.{rules}
use Rattle.wincode_base.proofs.Walks.{sum_joined, sum_unjoined}
use Rattle.wincode_write.proofs.schema.to_items.LinkedListToItems.add_sizes.Goals as goal

pub returns-in_err-sum-clause-err : goal.returns-in_err-sum-clause-err
returns-in_err-sum-clause-err g c =
    let T = g.T.SchemaWrite in
    let h = sum_unjoined T.writing T.model c.args.before _ _ _ _ c.in-Some.item.now _ _ c.loop-item.invariant c.in-Some.ensures.steps
    c.size_of.ensures.ok c.size_of.ensures.err c.in_err-sum.ensures.err in search (rules, h)

pub loop-item-preserved : goal.loop-item-preserved
loop-item-preserved g c =
    let T = g.T.SchemaWrite in
    sum_joined T.writing T.model c.args.before _ _ _ _ _ c.in-Some.item.now _ c.loop-item.invariant c.in-Some.ensures.steps
    c.size_of.ensures.ok c.in_ok-sum.ensures.ok

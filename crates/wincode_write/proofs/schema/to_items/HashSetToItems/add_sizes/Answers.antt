use Rattle.std.proofs.Common.{rules}
use Rattle.wincode_base.proofs.Walks.{sum_joined, sum_unjoined}
use Rattle.wincode_write.proofs.schema.to_items.HashSetToItems.add_sizes.Goals as goal

pub returns-in_err-sum-clause-err : goal.returns-in_err-sum-clause-err
returns-in_err-sum-clause-err g c =
    let K = g.K.SchemaWrite in
    let h = sum_unjoined K.writing K.model c.args.before _ _ _ _ c.in-Some.key.now _ _ c.loop-key.invariant c.in-Some.ensures.steps
    c.size_of.ensures.ok c.size_of.ensures.err c.in_err-sum.ensures.err in search (rules, h)

pub loop-key-preserved : goal.loop-key-preserved
loop-key-preserved g c =
    let K = g.K.SchemaWrite in
    sum_joined K.writing K.model c.args.before _ _ _ _ _ c.in-Some.key.now _ c.loop-key.invariant c.in-Some.ensures.steps
    c.size_of.ensures.ok c.in_ok-sum.ensures.ok

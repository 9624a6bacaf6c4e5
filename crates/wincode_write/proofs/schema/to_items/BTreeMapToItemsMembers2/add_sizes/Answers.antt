use Rattle.std.proofs.Common.{[], sym, arith}
use Rattle.wincode_collect.specs.Seen.{sees}
use Rattle.wincode_base.specs.Pairs.{pair_write}
use Rattle.wincode_base.proofs.Walks.{sum_joined, sum_unjoined}
use Rattle.wincode_write.proofs.Walked.{summed}
use Rattle.wincode_write.proofs.schema.to_items.BTreeMapToItemsMembers2.add_sizes.Goals as goal
use Rattle.wincode_base.proofs.ReadAnswers.{if_passed}

pub returns-in_err-sum-clause-err : goal.returns-in_err-sum-clause-err
returns-in_err-sum-clause-err g c =
    let K = g.K.SchemaWrite in
    let V = g.V.SchemaWrite in
    let h = sum_unjoined (pair_write K.writing V.writing) (sees K.model V.model) c.args.before _ _ _ _ (c.in-Some-2.key.now, c.in-Some-2.value.now) _ _
    c.loop-key.invariant c.in-Some-2.ensures.steps c.size_of_members_2.ensures.ok c.size_of_members_2.ensures.err c.in_err-sum.ensures.err in
    if_passed _ _ _ c.from_residual.ensures h

pub loop-key-init : goal.loop-key-init
loop-key-init g c = record { done = []; joins = c.into_iter-key-iterator.ensures.into_iter_gives.0; can = tt; is = omega arith }

pub loop-key-preserved : goal.loop-key-preserved
loop-key-preserved g c =
    let K = g.K.SchemaWrite in
    let V = g.V.SchemaWrite in
    sum_joined (pair_write K.writing V.writing) (sees K.model V.model) c.args.before _ _ _ _ _ (c.in-Some-2.key.now, c.in-Some-2.value.now) _
    c.loop-key.invariant c.in-Some-2.ensures.steps c.size_of_members_2.ensures.ok c.in_ok-sum.ensures.ok

pub returns-clause-ok : goal.returns-clause-ok
returns-clause-ok g c =
    let K = g.K.SchemaWrite in
    let V = g.V.SchemaWrite in
    summed (pair_write K.writing V.writing) (sees K.model V.model) _ _ _ _ c.loop-key.invariant c.in-None.ensures.steps.0

pub returns-in-Some-clause-ok : goal.returns-in-Some-clause-ok
returns-in-Some-clause-ok g c = (c.in-Some.ensures c.args.self.now.entries (sym c.len.ensures.len)).0

pub returns-in-Some-clause-err : goal.returns-in-Some-clause-err
returns-in-Some-clause-err g c = (c.in-Some.ensures c.args.self.now.entries (sym c.len.ensures.len)).1

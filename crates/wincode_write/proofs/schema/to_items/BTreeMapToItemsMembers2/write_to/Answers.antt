use Rattle.std.proofs.Common.{[], arith}
use Rattle.wincode_base.specs.WriteSequences.{items_wrote_none}
use Rattle.wincode_base.specs.PairLaws.{pair_write_laws}
use Rattle.wincode_base.proofs.WriteAnswers.{write_refused}
use Rattle.wincode_base.proofs.Walks.{walk_item_more, walk_item_refused, walk_item_halted}
use Rattle.wincode_write.proofs.Walked.{walked}
use Rattle.wincode_write.proofs.schema.to_items.BTreeMapToItemsMembers2.write_to.Goals as goal

pub loop-key-init : goal.loop-key-init
loop-key-init g c = record {
  done = [];
  joins = c.into_iter-key-iterator.ensures.into_iter_gives.0;
  items = items_wrote_none g.met.W.Writer.writer_laws (pair_write_laws g.K.SchemaWrite.write_laws g.V.SchemaWrite.write_laws) _;
  each = tt;
}

pub loop-key-preserved : goal.loop-key-preserved
loop-key-preserved g c =
    let laws = pair_write_laws g.K.SchemaWrite.write_laws g.V.SchemaWrite.write_laws in
    walk_item_more g.met.W.Writer.writer_laws laws {e = (c.in-Some-2.key.now, c.in-Some-2.value.now)} c.loop-key.invariant c.in-Some-2.ensures.steps
    c.in_ok-write_pair.ensures.ok c.in_ok-write_pair.ensures.value

pub returns-in_err-write_pair : goal.returns-in_err-write_pair
returns-in_err-write_pair g c =
    let laws = pair_write_laws g.K.SchemaWrite.write_laws g.V.SchemaWrite.write_laws in
    let o = c.in_err-write_pair.ensures in
    let u = walk_item_refused g.met.W.Writer.writer_laws laws {e = (c.in-Some-2.key.now, c.in-Some-2.value.now)} c.loop-key.invariant c.in-Some-2.ensures.steps
    o.refused.0 in
    let p = walk_item_halted g.met.W.Writer.writer_laws laws {e = (c.in-Some-2.key.now, c.in-Some-2.value.now)} c.loop-key.invariant c.in-Some-2.ensures.steps
    o.refused.1 in
    write_refused _ _ _ _ _ c.from_residual.ensures u p

pub returns : goal.returns
returns g c =
    let laws = pair_write_laws g.K.SchemaWrite.write_laws g.V.SchemaWrite.write_laws in
    walked g.met.W.Writer.writer_laws laws _ c.loop-key.invariant c.in-None.ensures.steps.0

pub write_sorted-requires-clause-one_size : goal.write_sorted-requires-clause-one_size
write_sorted-requires-clause-one_size g c = c.in-Some.ensures.1

pub write_sorted-requires-clause-size : goal.write_sorted-requires-clause-size
write_sorted-requires-clause-size g c = omega (arith, c.in-Some.ensures.0)

pub returns-in-Some : goal.returns-in-Some
returns-in-Some g c = c.write_sorted.ensures

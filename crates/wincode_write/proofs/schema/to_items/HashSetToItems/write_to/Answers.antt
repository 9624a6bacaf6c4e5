use Rattle.wincode_base.proofs.WriteAnswers.{write_refused}
use Rattle.wincode_base.proofs.Walks.{walk_item_more, walk_item_refused, walk_item_halted}
use Rattle.wincode_write.proofs.schema.to_items.HashSetToItems.write_to.Goals as goal

pub loop-key-preserved : goal.loop-key-preserved
loop-key-preserved g c =
    walk_item_more g.met.W.Writer.writer_laws g.K.SchemaWrite.write_laws c.loop-key.invariant c.in-Some.ensures.steps c.in_ok-write_item.ensures.ok
    c.in_ok-write_item.ensures.value

pub returns-in_err-write_item : goal.returns-in_err-write_item
returns-in_err-write_item g c =
    let o = c.in_err-write_item.ensures in
    let u = walk_item_refused g.met.W.Writer.writer_laws g.K.SchemaWrite.write_laws c.loop-key.invariant c.in-Some.ensures.steps o.refused.0 in
    let p = walk_item_halted g.met.W.Writer.writer_laws g.K.SchemaWrite.write_laws c.loop-key.invariant c.in-Some.ensures.steps o.refused.1 in
    write_refused _ _ _ _ _ c.from_residual.ensures u p

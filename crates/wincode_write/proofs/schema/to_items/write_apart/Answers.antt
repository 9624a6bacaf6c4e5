use Rattle.std.proofs.Common.{rules, ◌≤◌, refl, length}
use Rattle.std.proofs.lemmas.List.{take_all}
use Rattle.wincode_io.specs.JoinLaws.{each_after}
use Rattle.wincode_base.specs.Lists.{items_write, each_write}
use Rattle.wincode_base.specs.WriteSequences.{items_wrote_none, wrote_map, unwritten_map}
use Rattle.wincode_base.proofs.WriteAnswers.{write_refused}
use Rattle.wincode_base.proofs.Lists.{items_after, items_stopped, each_place}
use Rattle.wincode_write.proofs.schema.to_items.write_apart.Goals as goal

pub returns-in_err-write : goal.returns-in_err-write
returns-in_err-write g c =
    let T = g.T.SchemaWrite in
    let o = c.in_err-write.ensures in
    let u = items_stopped c.args.items.now c.loop-item.item-index c.item-item.result c.loop-item-test.true c.item-item.is T.model g.met.W.Writer.writer_laws
    g.T.SchemaWrite.write_laws c.loop-item.invariant.0 o.refused.0 in
    let s = each_place c.args.items.now c.loop-item.item-index c.item-item.result c.loop-item-test.true c.item-item.is T.model g.met.W.Writer.writer_laws
    g.T.SchemaWrite.write_laws c.loop-item.invariant.0 o.refused.1 in
    write_refused _ _ _ _ _ c.from_residual.ensures (unwritten_map (items_write T.writing) (each_write T.writing) _ _ (λ x. x) refl (λ b w. w) u) s

pub returns : goal.returns
returns g c =
    let T = g.T.SchemaWrite in
    let over : length c.args.items.now ≤ c.loop-item.item-index = search rules in
    let all = take_all c.loop-item.item-index c.args.items.now over in
    let written = rw all at c.loop-item.invariant in
    record { ok = wrote_map (items_write T.writing) (each_write T.writing) _ _ (λ x. x) refl (λ b w. w) written.0; value = written.1; refused = tt }

pub loop-item-init : goal.loop-item-init
loop-item-init g c = (items_wrote_none g.met.W.Writer.writer_laws g.T.SchemaWrite.write_laws _, tt)

pub loop-item-preserved : goal.loop-item-preserved
loop-item-preserved g c =
    let T = g.T.SchemaWrite in (
      items_after c.args.items.now c.loop-item.item-index c.item-item.result c.loop-item-test.true c.item-item.is T.model g.met.W.Writer.writer_laws
          g.T.SchemaWrite.write_laws c.loop-item.invariant.0 c.in_ok-write.ensures.ok,
      each_after c.args.items.now c.loop-item.item-index c.item-item.result c.loop-item-test.true c.item-item.is T.is_valid c.loop-item.invariant.1
          c.in_ok-write.ensures.value,
    )

use Rattle.std.proofs.Common.{rules, ◌≡◌, sym, ◌∙◌, refl, arith}
use Rattle.wincode_io.specs.JoinLaws.{each_after}
use Rattle.wincode_base.specs.Lists.{item_write}
use Rattle.wincode_base.specs.Outcomes.{Wrote, Stopped}
use Rattle.wincode_base.specs.WriteSequences.{items_wrote_none, encoding_wrote, encoding_unwritten}
use Rattle.wincode_base.specs.declared.error.WriteError.TheVariants as writing
use Rattle.wincode_base.proofs.InWindow.{short_halted}
use Rattle.wincode_base.proofs.Lists.{items_after, items_stopped, items_place, item_place}
use Rattle.wincode_base.proofs.WriteAnswers.{write_refused}
use Rattle.wincode_write.proofs.schema.SchemaWrite.write_items.Goals.{in-Static, in-Dynamic, then-size-le-LONGEST+then-encode+in_ok-write}
use Rattle.wincode_write.proofs.schema.SchemaWrite.write_items.Goals.{else-size-le-LONGEST+in_ok-write-2}
use Rattle.wincode_write.proofs.schema.SchemaWrite.write_items.Goals as goal

pub loop-item-init : goal.loop-item-init
loop-item-init g c =
    let same : g.W.Writer.state c.write_at_once.new.writer ≡ g.W.Writer.state c.args.writer.now = search rules in
    rw same (items_wrote_none g.met.W.Writer.writer_laws g.Self.SchemaWrite.write_laws _, tt)

-- what was put together was refused
pub returns-in_err-write : goal.returns-in_err-write
returns-in_err-write g c =
    let T = g.Self.SchemaWrite in
    let laws = g.met.W.Writer.writer_laws in
    let v = T.model c.item-item.result in
    let bytes = c.encode.new.dst in
    let encoded = (c.if-encode.ensures refl).0 in
    let size = T.write_laws.encoding_size v bytes encoded.1 in
    let d = c.in_err-write.ensures.err in
    let stopped : Stopped (item_write T.writing) (g.W.Writer.state c.loop-item.writer) (g.W.Writer.state c.write.new.self) v
    (writing.Io c.in_err-write.field-0.0) = elim c.match-type_meta.branch [
      | in-Static w ↦ short_halted T.writing v _ laws _ (sym c.type_meta.ensures ∙ w.in-Static.is) d
      | in-Dynamic w ↦ absurd (omega (arith, w.size-is, c.if-size-le-LONGEST.true))
    ] in
    let u = items_stopped c.args.items.now c.loop-item.item-index c.item-item.result c.loop-item-test.true c.item-item.is T.model laws T.write_laws
    c.loop-item.invariant.0 (encoding_unwritten T.writing v bytes encoded.1 size laws _ _ _ d) in
    let s = item_place c.args.items.now c.loop-item.item-index c.item-item.result c.loop-item-test.true c.item-item.is T.model laws T.write_laws
    c.loop-item.invariant.0 stopped in
    write_refused _ _ _ _ _ c.from_residual.ensures u s

pub returns-in_err-write-2 : goal.returns-in_err-write-2
returns-in_err-write-2 g c =
    let T = g.Self.SchemaWrite in
    let o = c.in_err-write-2.ensures in
    let u = items_stopped c.args.items.now c.loop-item.item-index c.item-item.result c.loop-item-test.true c.item-item.is T.model g.met.W.Writer.writer_laws
    T.write_laws c.loop-item.invariant.0 o.refused.0 in
    let s = items_place c.args.items.now c.loop-item.item-index c.item-item.result c.loop-item-test.true c.item-item.is T.model g.met.W.Writer.writer_laws
    T.write_laws c.loop-item.invariant.0 o.refused.1 in
    write_refused _ _ _ _ _ c.from_residual-in_err-write-2.ensures u s

pub loop-item-preserved : goal.loop-item-preserved
loop-item-preserved g c =
    let T = g.Self.SchemaWrite in
    let x = c.item-item.result in
    let one : Wrote T.writing (g.W.Writer.state c.loop-item.writer) (g.W.Writer.state c.if-size-le-LONGEST.writer) (T.model x) × T.is_valid x =
    elim c.if-size-le-LONGEST.branch [
      | then-size-le-LONGEST+then-encode+in_ok-write w ↦
          let encoded = w.if-encode.ensures refl in
          let size = T.write_laws.encoding_size (T.model x) w.encode.new.dst encoded.0.1 in
          (rw w.writer-is (encoding_wrote T.writing (T.model x) w.encode.new.dst encoded.0.1 size _ _ encoded.0.0 w.in_ok-write.ensures.ok), encoded.1)
      | else-size-le-LONGEST+in_ok-write-2 w ↦ (rw w.writer-is w.in_ok-write-2.ensures.ok, w.in_ok-write-2.ensures.value)
    ] in (
      items_after c.args.items.now c.loop-item.item-index x c.loop-item-test.true c.item-item.is T.model g.met.W.Writer.writer_laws T.write_laws
          c.loop-item.invariant.0 one.0,
      each_after c.args.items.now c.loop-item.item-index x c.loop-item-test.true c.item-item.is T.is_valid c.loop-item.invariant.1 one.1,
    )

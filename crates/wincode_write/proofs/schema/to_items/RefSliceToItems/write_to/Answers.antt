use Rattle.std.proofs.Common.{rules, ◌≡◌, refl, [], ◌++◌, length, drop, arith}
use Rattle.std.proofs.lemmas.List.{take-append-le}
use Rattle.wincode_base.specs.WriteSequences.{items_wrote_none}
use Rattle.wincode_base.proofs.Walks.{walk_run, walk_run_refused, walk_run_halted, walk_all}
use Rattle.wincode_base.proofs.WriteAnswers.{write_refused}
use Rattle.wincode_write.proofs.Fronts.{run_wrote}
use Rattle.wincode_write.proofs.schema.to_items.RefSliceToItems.write_to.Goals as goal

pub loop-rest-init : goal.loop-rest-init
loop-rest-init g c =
    let same : g.W.Writer.state c.write_short.new.writer ≡ g.W.Writer.state c.args.writer.now = search rules in
    rw same (record { done = []; joins = refl; items = items_wrote_none g.met.W.Writer.writer_laws g.T.SchemaWrite.write_laws _; each = tt }, omega arith)

pub returns-in_err-write_items : goal.returns-in_err-write_items
returns-in_err-write_items g c =
    let T = g.T.SchemaWrite in
    let laws = g.met.W.Writer.writer_laws in
    let run = c.split_at.result.0.now in
    let more = c.split_at.result.1.now in
    let cut : c.loop-rest.rest.now ≡ run ++ more = search rules in
    let o = c.in_err-write_items.ensures in
    let u = walk_run_refused laws T.write_laws run more c.loop-rest.invariant.0 cut o.refused.0 in
    let p = walk_run_halted laws T.write_laws run more c.loop-rest.invariant.0 cut o.refused.1 in
    write_refused _ _ _ _ _ c.from_residual.ensures u p

pub loop-rest-preserved-then-count-eq0 : goal.loop-rest-preserved-then-count-eq0
loop-rest-preserved-then-count-eq0 g c =
    let T = g.T.SchemaWrite in
    let run = c.split_at.result.0.now in
    let more = c.split_at.result.1.now in
    let cut : c.loop-rest.rest.now ≡ run ++ more = search rules in
    let o = c.in_ok-write_items.ensures in
    (walk_run g.met.W.Writer.writer_laws T.write_laws run more c.loop-rest.invariant.0 cut o.ok o.value, omega arith)

pub loop-rest-preserved : goal.loop-rest-preserved
loop-rest-preserved g c =
    let T = g.T.SchemaWrite in
    let laws = g.met.W.Writer.writer_laws in
    let o = c.encode_first-count.ensures in
    let count = c.encode_first-count.result.0 in
    let filled = c.encode_first-count.result.1 in
    let bytes = c.encode_first-count.new.dst in
    let front = take-append-le filled bytes (drop c.min-room.result c.loop-rest.block) o.within in
    let ready = g.met.W.Writer.ready_room c.loop-rest.writer in (
      run_wrote laws T.write_laws count filled bytes _ c.loop-rest.invariant.0 c.split_at-else-count-eq0.ensures.back o.encoded o.is_valid front
          (search (rules, ready)) c.write_ready.ensures.took,
      omega arith,
    )

pub returns : goal.returns
returns g c =
    let T = g.T.SchemaWrite in
    let none : length c.loop-rest.rest.now ≡ 0 = search rules in
    let all = walk_all g.met.W.Writer.writer_laws T.write_laws c.loop-rest.invariant.0 none in
    record { ok = all.0; value = all.1; refused = tt }

use Rattle.std.proofs.Common.{rules, ◌≡◌, refl, [], ◌++◌, length, subst, arith}
use Rattle.wincode_io.specs.Joins.{Each}
use Rattle.wincode_base.specs.MadeLaws.{made_write_laws}
use Rattle.wincode_base.specs.WriteSequences.{items_wrote_none}
use Rattle.wincode_base.proofs.Walks.{walk_run, walk_run_refused, walk_run_halted, walk_all}
use Rattle.wincode_base.proofs.WriteAnswers.{write_refused}
use Rattle.wincode_write.proofs.Parts.{both_hold, parts_wrote, parts_refused, parts_halted}
use Rattle.wincode_write.proofs.schema.made.runs.write_runs.Goals as goal

pub loop-rest-init : goal.loop-rest-init
loop-rest-init g c = (
  record {
    done = [];
    joins = refl;
    items = items_wrote_none g.met.W.Writer.writer_laws (made_write_laws g.T.ToParts.sound g.T.ToParts.parts g.A.SchemaWrite.write_laws) _;
    each = tt;
  },
  c.requires,
)

pub returns-in_err-write_items : goal.returns-in_err-write_items
returns-in_err-write_items g c =
    let A = g.A.SchemaWrite in
    let T = g.T.ToParts in
    let laws = made_write_laws T.sound T.parts A.write_laws in
    let run = c.split_at.result.0.now in
    let more = c.split_at.result.1.now in
    let cut : c.loop-rest.rest.now ≡ run ++ more = search rules in
    let o = c.in_err-write_items.ensures in
    let u = walk_run_refused g.met.W.Writer.writer_laws laws run more c.loop-rest.invariant.0 cut
    (parts_refused A.writing A.model T.parts _ run c.put_parts.ensures.parts o.refused.0) in
    let p = walk_run_halted g.met.W.Writer.writer_laws laws run more c.loop-rest.invariant.0 cut
    (parts_halted A.writing A.model T.parts _ run c.put_parts.ensures.parts o.refused.1) in
    write_refused _ _ _ _ _ c.from_residual.ensures u p

pub loop-rest-preserved : goal.loop-rest-preserved
loop-rest-preserved g c =
    let A = g.A.SchemaWrite in
    let T = g.T.ToParts in
    let laws = made_write_laws T.sound T.parts A.write_laws in
    let run = c.split_at.result.0.now in
    let more = c.split_at.result.1.now in
    let cut : c.loop-rest.rest.now ≡ run ++ more = search rules in
    let o = c.in_ok-write_items.ensures in
    let put = c.put_parts.ensures in
    let each = both_hold T.sound A.is_valid T.parts run put.sound (subst (Each A.is_valid) put.parts o.value) in (
      walk_run g.met.W.Writer.writer_laws laws run more c.loop-rest.invariant.0 cut (parts_wrote A.writing A.model T.parts _ run put.parts o.ok) each,
      search (rules, arith),
    )

pub returns : goal.returns
returns g c =
    let none : length c.loop-rest.rest.now ≡ 0 = search rules in
    let all = walk_all g.met.W.Writer.writer_laws (made_write_laws g.T.ToParts.sound g.T.ToParts.parts g.A.SchemaWrite.write_laws) c.loop-rest.invariant.0 none in
    record { ok = all.0; value = all.1; refused = tt }

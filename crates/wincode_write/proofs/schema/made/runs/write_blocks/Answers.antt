use Rattle.std.proofs.Common.{rules, ◌≡◌, refl, [], ◌++◌, ◌≤◌, length, arith}
use Rattle.wincode_base.specs.MadeLaws.{made_write_laws}
use Rattle.wincode_base.specs.WriteSequences.{items_wrote_none}
use Rattle.wincode_base.proofs.Walks.{walk_all}
use Rattle.wincode_write.proofs.Parts.{block_wrote, rest_written}
use Rattle.wincode_write.proofs.schema.made.runs.write_blocks.Goals as goal

pub loop-rest-init : goal.loop-rest-init
loop-rest-init g c = record {
  done = [];
  joins = refl;
  items = items_wrote_none g.met.W.Writer.writer_laws (made_write_laws g.T.ToParts.sound g.T.ToParts.parts g.A.SchemaWrite.write_laws) _;
  each = tt;
}

pub returns-then-is_empty : goal.returns-then-is_empty
returns-then-is_empty g c =
    let laws = made_write_laws g.T.ToParts.sound g.T.ToParts.parts g.A.SchemaWrite.write_laws in
    rest_written g.met.W.Writer.writer_laws laws c.loop-rest.invariant c.write_runs.result c.write_runs.ensures

pub loop-rest-preserved : goal.loop-rest-preserved
loop-rest-preserved g c =
    let laws = made_write_laws g.T.ToParts.sound g.T.ToParts.parts g.A.SchemaWrite.write_laws in
    let run = c.split_at.result.0.now in
    let more = c.split_at.result.1.now in
    let cut : c.loop-rest.rest.now ≡ run ++ more = search rules in
    let put = c.put_made.ensures (search rules) in
    let ready = g.met.W.Writer.ready_room c.loop-rest.writer in
    block_wrote g.met.W.Writer.writer_laws laws c.loop-rest.invariant run more cut c.put_made.new.dst put.0 put.1 (search (rules, arith, ready)) c.write_ready.ensures.took

pub returns : goal.returns
returns g c =
    let none : length c.loop-rest.rest.now ≡ 0 = search rules in
    let all = walk_all g.met.W.Writer.writer_laws (made_write_laws g.T.ToParts.sound g.T.ToParts.parts g.A.SchemaWrite.write_laws) c.loop-rest.invariant none in
    record { ok = all.0; value = all.1; refused = tt }

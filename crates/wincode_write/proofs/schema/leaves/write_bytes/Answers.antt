use Rattle.std.proofs.Common.{rules, true, ◌<◌, ◌^◌, length}
use Rattle.wincode_base.proofs.Integers.{AreSmall}
use Rattle.wincode_base.proofs.FormRuns.{bytes_at_once}
use Rattle.wincode_base.proofs.Bulk.{bytes_wrote, bytes_unwritten, bytes_halted, each_small}
use Rattle.wincode_write.proofs.Exits.{at_once_refused}
use Rattle.wincode_base.specs.Leaves.{number_write}
use Rattle.wincode_write.proofs.schema.leaves.write_bytes.Goals as goal

pub returns-in_err-write : goal.returns-in_err-write
returns-in_err-write g c =
    let small : AreSmall c.args.items.now = search rules in
    let laws = g.met.W.Writer.writer_laws in
    let d = c.in_err-write.ensures.err in
    let u = bytes_unwritten c.args.items.now small laws _ d in
    let p = bytes_halted c.args.items.now small laws _ d in
    let few : length c.args.items.now < 2 ^ 64 = search rules in
    let b = bytes_at_once (length c.args.items.now) _ _ _ few d in
    at_once_refused 1 (length c.args.items.now) (number_write 1 true) _ _ _ _ c.from_residual.ensures u p b

pub returns : goal.returns
returns g c =
    let small : AreSmall c.args.items.now = search rules in
    record {
      each = record {
        ok = bytes_wrote c.args.items.now small c.in_ok-write.ensures.ok;
        value = each_small c.args.items.now small;
        refused = tt;
      };
      at_once = tt;
    }

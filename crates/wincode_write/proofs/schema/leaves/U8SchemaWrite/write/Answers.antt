use Rattle.std.proofs.Common.{rules, true, w8, ◌∙◌, ◌<◌}
use Rattle.wincode_base.proofs.Integers.{number_wrote, number_unwritten, number_halted, byte_encoding}
use Rattle.wincode_base.proofs.WriteAnswers.{write_refused}
use Rattle.wincode_base.specs.Leaves.{number_write}
use Rattle.wincode_write.proofs.schema.leaves.U8SchemaWrite.write.Goals as goal

pub returns-in_err-write : goal.returns-in_err-write
returns-in_err-write g c =
    let small : c.args.src.now < 256 = search rules in
    let is = c.to_le_bytes.ensures ∙ byte_encoding c.args.src.now small in
    let laws = g.met.W.Writer.writer_laws in
    let d = c.in_err-write.ensures.err in
    let u = number_unwritten w8 true c.args.src.now is laws _ d in
    let p = number_halted w8 true c.args.src.now is laws _ d in
    write_refused (number_write 1 true) c.args.src.now _ _ _ c.from_residual.ensures u p

pub returns : goal.returns
returns g c =
    let small : c.args.src.now < 256 = search rules in
    let is = c.to_le_bytes.ensures ∙ byte_encoding c.args.src.now small in
    record { ok = number_wrote w8 true c.args.src.now is c.in_ok-write.ensures.ok; value = small; refused = tt }

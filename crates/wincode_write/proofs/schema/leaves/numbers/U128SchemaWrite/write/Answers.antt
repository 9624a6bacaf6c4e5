use Rattle.std.proofs.Common.{true, arith}
use Rattle.std.specs.Int.{w128, byte_len}
use Rattle.wincode_base.proofs.Integers.{number_wrote, number_unwritten, number_halted}
use Rattle.wincode_base.proofs.WriteAnswers.{write_refused}
use Rattle.wincode_base.specs.Leaves.{number_write}
use Rattle.wincode_write.proofs.schema.leaves.numbers.U128SchemaWrite.write.Goals as goal

pub returns-in_err-write : goal.returns-in_err-write
returns-in_err-write g c =
    let is = c.to_le_bytes.ensures in
    let laws = g.met.W.Writer.writer_laws in
    let d = c.in_err-write.ensures.err in
    let u = number_unwritten w128 true c.args.src.now is laws _ d in
    let p = number_halted w128 true c.args.src.now is laws _ d in
    write_refused (number_write (byte_len w128) true) c.args.src.now _ _ _ c.from_residual.ensures u p

pub returns : goal.returns
returns g c =
    let is = c.to_le_bytes.ensures in
    record { ok = number_wrote w128 true c.args.src.now is c.in_ok-write.ensures.ok; value = omega arith; refused = tt }

use Rattle.std.proofs.Common.{arith, ◌<◌, ◌^◌}
use Rattle.wincode_base.specs.Lengths.{length_write, bincode}
use Rattle.wincode_base.proofs.WriteAnswers.{write_refused}
use Rattle.wincode_base.proofs.Lengths.{length_wrote, length_unwritten, length_halted}
use Rattle.wincode_base.proofs.len.BincodeLenSeqLen.write.Goals as goal

pub returns-in_err-write : goal.returns-in_err-write
returns-in_err-write g c =
    let fits : c.args.len < 2 ^ 64 = omega (arith, c.ranges.len.fits) in
    let laws = g.met.W.Writer.writer_laws in
    let d = c.in_err-write.ensures.err in
    write_refused (length_write (bincode g.row.MAX_SIZE)) _ _ _ _ c.from_residual.ensures
    (length_unwritten g.row.MAX_SIZE c.args.len fits c.to_le_bytes.ensures laws _ d)
    (length_halted g.row.MAX_SIZE c.args.len fits c.to_le_bytes.ensures laws _ d)

pub returns : goal.returns
returns g c =
    let fits : c.args.len < 2 ^ 64 = omega (arith, c.ranges.len.fits) in
    record { ok = length_wrote g.row.MAX_SIZE c.args.len fits c.to_le_bytes.ensures c.in_ok-write.ensures.ok; value = tt; refused = tt }

use Rattle.std.proofs.Common.{arith, ◌<◌, ◌^◌}
use Rattle.wincode_base.proofs.Lengths.{length_needed}
use Rattle.wincode_base.proofs.len.BincodeLenSeqLen.write_bytes_needed.Goals as goal

pub returns-clause-ok : goal.returns-clause-ok
returns-clause-ok g c =
    let fits : c.args._len < 2 ^ 64 = omega (arith, c.ranges._len.fits) in
    length_needed g.row.MAX_SIZE c.args._len fits

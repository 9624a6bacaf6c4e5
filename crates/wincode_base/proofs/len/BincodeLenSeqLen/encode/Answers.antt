use Rattle.std.proofs.Common.{◌<◌, ◌^◌, arith}
use Rattle.wincode_base.proofs.Lengths.{length_put}
use Rattle.wincode_base.proofs.len.BincodeLenSeqLen.encode.Goals as goal

pub returns : goal.returns
returns g c =
    let fits : c.args.len < 2 ^ 64 = omega (arith, c.ranges.len.fits) in
    length_put g.row.MAX_SIZE c.args.len fits c.to_le_bytes.ensures c.put_front.new.dst c.put_front.result c.put_front.ensures.put

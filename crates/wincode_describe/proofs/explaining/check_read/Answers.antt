use Rattle.std.proofs.Common.{map, arith}
use Rattle.wincode_describe.specs.Parts.{seen}
use Rattle.wincode_describe.proofs.Shows.{read_explains}
use Rattle.wincode_describe.proofs.explaining.check_read.Goals as goal

pub returns-in-Ok : goal.returns-in-Ok
returns-in-Ok g c =
    let s = c.in-Ok.ensures.ok in
    (map seen s.more, omega (arith, s.is), read_explains c.args.described.now _ _ (map seen s.more) s.gives)

pub returns-in-Err : goal.returns-in-Err
returns-in-Err g c =
    let o = c.in-Err.ensures in
    (map seen o.began.more, omega (arith, o.began.is), (o.began.front, o.refused))

use Rattle.std.proofs.Common.{map, arith}
use Rattle.std.proofs.lemmas.List.{length-map}
use Rattle.wincode_describe.specs.Parts.{seen}
use Rattle.wincode_describe.proofs.Shows.{read_explains}
use Rattle.wincode_c.proofs.checking.count_read.Goals as goal

pub returns-in-Ok : goal.returns-in-Ok
returns-in-Ok g c =
    let s = c.in-Ok.ensures.ok in
    (map seen s.more, read_explains c.args.described.now _ _ (map seen s.more) s.gives, omega (arith, s.is.0), omega (arith, s.is.1, length-map s.more seen))

pub returns-in-Err : goal.returns-in-Err
returns-in-Err g c =
    let o = c.in-Err.ensures in
    let m = o.began.more in
    (map seen m, (o.began.front, o.refused), omega (arith, o.began.is.0), omega (arith, o.began.is.1, length-map m seen))

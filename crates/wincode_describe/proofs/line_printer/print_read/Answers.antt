use Rattle.std.proofs.Common.{refl, map, None, Some}
use Rattle.wincode_describe.specs.Parts.{seen}
use Rattle.wincode_describe.proofs.Shows.{read_explains}
use Rattle.wincode_describe.proofs.line_printer.print_read.Goals as goal

pub returns-in-Ok : goal.returns-in-Ok
returns-in-Ok g c =
    let s = c.in-Ok.ensures.ok in
    (map seen s.more, None, read_explains c.args.described.now _ _ (map seen s.more) s.gives, refl)

pub returns-in_ok-print_refusal-in-Err : goal.returns-in_ok-print_refusal-in-Err
returns-in_ok-print_refusal-in-Err g c =
    let o = c.in-Err.ensures in
    (map seen o.began.more, Some c.in-Err.error, (o.began.front, o.refused), refl)

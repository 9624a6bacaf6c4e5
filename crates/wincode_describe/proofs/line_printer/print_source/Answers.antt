use Rattle.std.proofs.Common.{ap, inl, refl, [], Some}
use Rattle.wincode_base.specs.declared.error.ReadError.TheVariants as reading
use Rattle.wincode_describe.proofs.Sourced.{source_says}
use Rattle.wincode_describe.proofs.line_printer.print_source.Goals as goal

pub returns-in-Ok : goal.returns-in-Ok
returns-in-Ok g c =
    let k = c.in-Ok.ensures.ok in
    let one = rw k.0 at c.print_read.ensures in
    let two = rw k.1 at one in
    let three = rw k.2 at two in
    source_says c.args.described.now (g.S.Source.state c.args.source) _ c.print_read.result (rw k.4 at three)

pub returns-in_ok-print_refusal-in-Err : goal.returns-in_ok-print_refusal-in-Err
returns-in_ok-print_refusal-in-Err g c = ([], Some (reading.Io c.in-Err.error), (λ t. (_, refl), inl (ap reading.Io c.in-Err.ensures.err)), refl)

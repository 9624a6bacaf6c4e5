use Rattle.std.proofs.Common.{sym, arith}
use Rattle.wincode_describe.proofs.Spanned.{spans_last, spans_none}
use Rattle.wincode_describe.proofs.lines.end_of.Goals as goal

pub returns-in-Some : goal.returns-in-Some
returns-in-Some c = λ parts are.
    omega (arith, c.saturating_add.ensures, spans_last parts c.args.spans.now c.in-Some.span.now are (sym c.in-Some.ensures.value))

pub returns-in-None : goal.returns-in-None
returns-in-None c = λ parts are. omega (arith, spans_none parts c.args.spans.now are c.in-None.ensures.value)

use Rattle.std.proofs.Common.{ap, length, length-take, arith}
use Rattle.wincode_read.proofs.schema.strings.copy_bytes.Goals as goal
use Rattle.wincode_base.proofs.ReadAnswers.{if_passed}

pub returns-in_err-bytes-clause-err : goal.returns-in_err-bytes-clause-err
returns-in_err-bytes-clause-err g c =
    let follows = rw c.in_err-bytes.was at c.fill_exact.follows.holds-at-none in
    if_passed _ _ _ c.from_residual.ensures (follows.0, follows.2.0, follows.2.1)

pub returns-in-Err-clause-err : goal.returns-in-Err-clause-err
returns-in-Err-clause-err g c =
    let follows = rw c.in_ok-bytes.was at c.fill_exact.follows.holds-at-none in
    let shown = c.in_ok-bytes.ensures.shown in
    (tt, (follows.0, follows.1.1), λ known. omega (arith, shown.0, ap length (shown.1.1 known), length-take c.args.n (g.R.Reader.state c.args.reader.now).rest))

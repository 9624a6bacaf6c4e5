use Rattle.wincode_base.proofs.ReadAnswers.{get_refused}
use Rattle.wincode_derive_support.proofs.Parting.{below_refused, above_refused}
use Rattle.wincode_derive_support.proofs.splits.SplitCasesRead.get_case.Goals as goal

pub returns-in_err-first : goal.returns-in_err-first
returns-in_err-first g c =
    let A = g.A.CasesRead in
    let B = g.B.CasesRead in
    let o = c.in_err-first.ensures in
    get_refused _ _ _ _ c.from_residual.ensures (below_refused g.row.BOUND A.tag A.own B.tag B.own A.part B.part A.refused B.refused c.args.given _ _ _
    c.if-given.true o.refused)

pub returns-in_err-other : goal.returns-in_err-other
returns-in_err-other g c =
    let A = g.A.CasesRead in
    let B = g.B.CasesRead in
    let o = c.in_err-other.ensures in
    get_refused _ _ _ _ c.from_residual-in_err-other.ensures (above_refused g.row.BOUND A.tag A.own B.tag B.own A.part B.part A.refused B.refused c.args.given
    _ _ _ c.if-given.false o.refused)

use Rattle.wincode_base.proofs.ReadAnswers.{get_refused}
use Rattle.wincode_derive_support.proofs.Cases.{first_refused, other_refused}
use Rattle.wincode_derive_support.proofs.sums.CaseCasesRead.get_case.Goals as goal

pub returns-in_err-first : goal.returns-in_err-first
returns-in_err-first g c =
    let A = g.A.SchemaRead in
    let C = g.Rest.CasesRead in
    let o = c.in_err-first.ensures in
    get_refused _ _ _ _ c.from_residual.ensures (first_refused g.row.TAG C.tag C.own A.reading C.part C.refused c.args.given _ _ _ c.if-given.true
    o.refused)

pub returns-in_err-other : goal.returns-in_err-other
returns-in_err-other g c =
    let A = g.A.SchemaRead in
    let C = g.Rest.CasesRead in
    let o = c.in_err-other.ensures in
    get_refused _ _ _ _ c.from_residual-in_err-other.ensures (other_refused g.row.TAG C.tag C.own A.reading C.part C.refused c.args.given _ _ _
    c.if-given.false o.refused)

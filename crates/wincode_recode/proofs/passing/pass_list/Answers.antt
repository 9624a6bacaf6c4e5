use Rattle.std.proofs.Common.{inr}
use Rattle.std.proofs.lemmas.Result.{IfErr-weaker}
use Rattle.wincode_recode.proofs.PassedOn.{ok_weaker, passed_list}
use Rattle.wincode_recode.proofs.passing.pass_list.Goals as goal

pub returns-clause-ok : goal.returns-clause-ok
returns-clause-ok g c =
    let R = g.T.SchemaRead in
    let W = g.T.SchemaWrite in
    let first = rw c.prealloc_size.ensures at c.in_ok-n.ensures.ok in
    ok_weaker c.pass_items.result (λ all. (
      all.0,
      passed_list g.met.W.Writer.writer_laws R.model R.reading W.model W.writing W.write_laws g.Len.SeqLen.scheme _ _ _ _ _ _ c.in_ok-n.n all.0 all.1 first all.2,
    )) c.pass_items.ensures.ok

pub returns-clause-err : goal.returns-clause-err
returns-clause-err g c =
    let first = rw c.prealloc_size.ensures at c.in_ok-n.ensures.ok in
    IfErr-weaker c.pass_items.result _ _ (λ e u. inr (record { len = c.in_ok-n.n; mid = _; between = _; passed = first; refused = u })) c.pass_items.ensures.err

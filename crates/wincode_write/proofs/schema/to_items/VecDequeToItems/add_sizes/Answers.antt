use Rattle.std.proofs.lemmas.Result.{IfOk-weaker, IfErr-weaker}
use Rattle.wincode_base.proofs.Walks.{sums_first, sums_second, sums_both}
use Rattle.wincode_write.proofs.schema.to_items.VecDequeToItems.add_sizes.Goals as goal
use Rattle.wincode_base.proofs.ReadAnswers.{if_passed}

pub returns-in_err-sum-clause-err : goal.returns-in_err-sum-clause-err
returns-in_err-sum-clause-err g c =
    let T = g.T.SchemaWrite in
    let h = sums_first T.writing T.model c.args.before _ _ _ _ c.as_slices.ensures.items c.in_err-sum.ensures.err in if_passed _ _ _ c.from_residual.ensures h

pub returns-clause-ok : goal.returns-clause-ok
returns-clause-ok g c =
    let T = g.T.SchemaWrite in
    IfOk-weaker c.add_sizes-2.result _ _ (λ n p. sums_both T.writing T.model c.args.before _ _ _ _ n c.as_slices.ensures.items c.in_ok-sum.ensures.ok p)
    c.add_sizes-2.ensures.ok

pub returns-clause-err : goal.returns-clause-err
returns-clause-err g c =
    let T = g.T.SchemaWrite in
    IfErr-weaker c.add_sizes-2.result _ _ (λ e p. sums_second T.writing T.model c.args.before _ _ _ _ e c.as_slices.ensures.items c.in_ok-sum.ensures.ok.1 p)
    c.add_sizes-2.ensures.err

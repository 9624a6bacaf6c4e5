use Rattle.std.proofs.Common.{rules, map}
use Rattle.std.proofs.lemmas.Result.{IfOk-weaker, IfErr-weaker}
use Rattle.wincode_base.proofs.Lists.{size_without_encoding, size_summed, size_unsummed}
use Rattle.wincode_base.proofs.ReadAnswers.{if_passed}
use Rattle.wincode_base.specs.Lists.{list_write}
use Rattle.wincode_base.specs.Outcomes.{SizeRefused}
use Rattle.wincode_write.proofs.schema.to_items.size_of_list.Goals as goal

pub returns-in_err-length-clause-err : goal.returns-in_err-length-clause-err
returns-in_err-length-clause-err g c =
    let T = g.T.SchemaWrite in
    let xs = g.C.ToItems.listed c.args.src.now in
    let h = size_without_encoding g.Len.SeqLen.scheme g.row.COUNT T.writing T.model xs _ (rw c.count.ensures.count at c.in_err-length.ensures.err) in
    if_passed (SizeRefused (list_write g.Len.SeqLen.scheme g.row.COUNT T.writing) (map T.model xs)) _ _ c.from_residual.ensures h

pub returns-clause-ok : goal.returns-clause-ok
returns-clause-ok g c = IfOk-weaker c.add_sizes.result _ _ (λ n p. size_summed g.Len.SeqLen.scheme g.row.COUNT g.T.SchemaWrite.writing g.T.SchemaWrite.model
    (g.C.ToItems.listed c.args.src.now) _ n (rw c.count.ensures.count at c.in_ok-length.ensures.ok.0) (rw c.count.ensures.count at c.in_ok-length.ensures.ok.1)
    p) c.add_sizes.ensures.ok

pub returns-clause-err : goal.returns-clause-err
returns-clause-err g c = IfErr-weaker c.add_sizes.result _ _ (λ e p. size_unsummed g.Len.SeqLen.scheme g.row.COUNT g.T.SchemaWrite.writing
    g.T.SchemaWrite.model (g.C.ToItems.listed c.args.src.now) _ e (rw c.count.ensures.count at c.in_ok-length.ensures.ok.1) p) c.add_sizes.ensures.err

pub returns-in_err-length-clause-unencoded : goal.returns-in_err-length-clause-unencoded
returns-in_err-length-clause-unencoded g c =
    let h = rw c.count.ensures.count at c.in_err-length.ensures.err in λ none. search (rules, h)

pub returns-clause-unencoded : goal.returns-clause-unencoded
returns-clause-unencoded g c = λ none. absurd (none (rw c.count.ensures.count at c.in_ok-length.ensures.ok.0))

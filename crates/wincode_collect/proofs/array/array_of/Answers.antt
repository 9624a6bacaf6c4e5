use Rattle.std.proofs.lemmas.Result.{IfErr-weaker}
use Rattle.wincode_collect.proofs.Runs.{failed_more}
use Rattle.wincode_collect.proofs.array.array_of.Goals as goal

pub returns-clause-err : goal.returns-clause-err
returns-clause-err g c = IfErr-weaker c.array_from.result _ _
    (λ e. failed_more g.F.ItemSource.gives c.args.f.now c.in_ok-first.first c.next.new.self g.row.N e c.array_from.new.f c.in_ok-first.ensures)
    c.array_from.ensures.err

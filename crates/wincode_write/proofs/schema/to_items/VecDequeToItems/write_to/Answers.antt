use Rattle.wincode_base.proofs.Walks.{runs_wrote, runs_each, runs_refused_first, runs_refused_second, runs_halted_first, runs_halted_second}
use Rattle.wincode_base.proofs.WriteAnswers.{write_refused, write_map}
use Rattle.wincode_write.proofs.schema.to_items.VecDequeToItems.write_to.Goals as goal

pub returns-in_err-write_to : goal.returns-in_err-write_to
returns-in_err-write_to g c =
    let laws = g.met.W.Writer.writer_laws in
    let l = g.T.SchemaWrite.write_laws in
    let o = c.in_err-write_to.ensures in
    write_refused _ _ _ _ _ c.from_residual.ensures (runs_refused_first laws l _ _ _ c.as_slices.ensures.items o.refused.0)
    (runs_halted_first laws l _ _ _ c.as_slices.ensures.items o.refused.1)

pub returns : goal.returns
returns g c =
    let laws = g.met.W.Writer.writer_laws in
    let l = g.T.SchemaWrite.write_laws in
    let o = c.in_ok-write_to.ensures in
    write_map _ _ _ _ _ _ _ (λ r. runs_wrote laws l _ _ _ c.as_slices.ensures.items o.ok r) (λ p. runs_each _ _ _ _ c.as_slices.ensures.items o.value p)
    (λ e u. runs_refused_second laws l _ _ _ c.as_slices.ensures.items o.ok u) (λ e h. runs_halted_second laws l _ _ _ c.as_slices.ensures.items o.ok h)
    c.write_to-2.ensures

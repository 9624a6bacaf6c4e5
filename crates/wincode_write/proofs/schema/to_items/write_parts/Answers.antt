use Rattle.wincode_base.proofs.WriteAnswers.{write_refused, write_map}
use Rattle.wincode_base.proofs.Lists.{all_wrote, length_unwritten, rest_unwritten, length_halted, rest_halted}
use Rattle.wincode_write.proofs.schema.to_items.write_parts.Goals as goal

pub returns-in_err-write-clause-outcome : goal.returns-in_err-write-clause-outcome
returns-in_err-write-clause-outcome g c =
    let laws = g.met.W.Writer.writer_laws in
    let s = g.Len.SeqLen.scheme in
    let l = g.T.SchemaWrite.write_laws in
    let xs = g.C.ToItems.listed c.args.src.now in
    let o = rw c.count.ensures.count at c.in_err-write.ensures in
    write_refused _ _ _ _ _ c.from_residual.ensures (length_unwritten laws s g.row.COUNT l xs o.refused.0) (length_halted laws s g.row.COUNT l xs o.refused.1)

pub returns-clause-outcome : goal.returns-clause-outcome
returns-clause-outcome g c =
    let laws = g.met.W.Writer.writer_laws in
    let s = g.Len.SeqLen.scheme in
    let l = g.T.SchemaWrite.write_laws in
    let xs = g.C.ToItems.listed c.args.src.now in
    let o = rw c.count.ensures.count at c.in_ok-write.ensures in
    write_map _ _ _ _ _ _ _ (λ r. all_wrote laws s g.row.COUNT l xs o.ok r) (λ p. p) (λ e u. rest_unwritten laws s g.row.COUNT l xs o.ok u)
    (λ e h. rest_halted laws s g.row.COUNT l xs o.ok h) c.write_to.ensures

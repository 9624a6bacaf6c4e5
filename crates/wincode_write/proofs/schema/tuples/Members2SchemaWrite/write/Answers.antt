use Rattle.wincode_base.specs.WriteSequences.{pair_wrote, pair_unwritten_first, pair_unwritten_second, pair_stopped_first, pair_stopped_second}
use Rattle.wincode_base.proofs.WriteAnswers.{write_refused, write_map}
use Rattle.wincode_write.proofs.schema.tuples.Members2SchemaWrite.write.Goals as goal

pub returns-in_err-write : goal.returns-in_err-write
returns-in_err-write g c = let l = g.A.SchemaWrite.write_laws in let m = g.B.SchemaWrite.write_laws in let laws = g.met.W.Writer.writer_laws in
    let w = g.B.SchemaWrite.model c.args.src.now.1 in
    let o = c.in_err-write.ensures in
    write_refused _ _ _ _ _ c.from_residual.ensures (pair_unwritten_first l m w o.refused.0)
    (pair_stopped_first g.A.SchemaWrite.writing g.B.SchemaWrite.writing w o.refused.1)

pub returns : goal.returns
returns g c = let l = g.A.SchemaWrite.write_laws in let m = g.B.SchemaWrite.write_laws in let laws = g.met.W.Writer.writer_laws in
    let o = c.in_ok-write.ensures in
    write_map _ _ _ _ _ _ _ (λ r. pair_wrote l m laws o.ok r) (λ p. (o.value, p)) (λ e u. pair_unwritten_second l m laws o.ok u)
    (λ e s. pair_stopped_second l laws o.ok s) c.write-2.ensures

use Rattle.std.proofs.Common.{refl, [], ◌∷◌}
use Rattle.wincode_base.specs.PairLaws.{pair_write_laws}
use Rattle.wincode_base.proofs.WriteAnswers.{write_refused}
use Rattle.wincode_write.proofs.Pending.{block_wrote, block_refused, behind_outcome}
use Rattle.wincode_write.proofs.schema.to_items.write_behind.Goals as goal

pub returns-in_err-write : goal.returns-in_err-write
returns-in_err-write g c =
    let writer = g.met.W.Writer.writer_laws in
    let K = g.K.SchemaWrite in
    let V = g.V.SchemaWrite in
    let laws = pair_write_laws K.write_laws V.write_laws in
    λ es encoded each.
    let d = block_refused writer laws es ((c.args.key.now, c.args.value.now) ∷ []) _ _ _ refl encoded each c.requires.one_size c.in_err-write.ensures.err in
    write_refused _ _ _ _ _ c.from_residual.ensures d.0 d.1

pub returns : goal.returns
returns g c =
    let writer = g.met.W.Writer.writer_laws in
    let K = g.K.SchemaWrite in
    let V = g.V.SchemaWrite in
    let laws = pair_write_laws K.write_laws V.write_laws in
    λ es encoded each.
    behind_outcome writer laws _ (block_wrote writer laws es ((c.args.key.now, c.args.value.now) ∷ []) _ _ refl encoded each c.in_ok-write.ensures.ok)
    c.write_pair.ensures

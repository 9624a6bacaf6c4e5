use Rattle.std.proofs.Common.{refl, Ok, Err}
use Rattle.wincode_base.proofs.WriteAnswers.{write_refused, write_map}
use Rattle.wincode_base.proofs.Tags.{side_tag_unwritten, side_tag_halted, ok_wrote, err_wrote, ok_unwritten, err_unwritten, ok_halted, err_halted}
use Rattle.wincode_write.proofs.schema.tags.write_result.Goals as goal

pub returns-in_err-write_tag-in-Ok : goal.returns-in_err-write_tag-in-Ok
returns-in_err-write_tag-in-Ok g c =
    let laws = g.met.W.Writer.writer_laws in
    let k = g.Tag.TagCode.size in
    let l = g.T.SchemaWrite.write_laws in
    let m = g.E.SchemaWrite.write_laws in
    let v = Ok (g.T.SchemaWrite.model c.in-Ok.value) in
    let o = c.in_err-write_tag-in-Ok.ensures in
    rw c.in-Ok.is (write_refused _ _ _ _ _ c.from_residual.ensures (side_tag_unwritten laws k l m v _ refl o.refused.0)
    (side_tag_halted laws k l m v _ refl o.refused.1))

pub returns-in_ok-write_tag-in-Ok : goal.returns-in_ok-write_tag-in-Ok
returns-in_ok-write_tag-in-Ok g c =
    let laws = g.met.W.Writer.writer_laws in
    let k = g.Tag.TagCode.size in
    let l = g.T.SchemaWrite.write_laws in
    let m = g.E.SchemaWrite.write_laws in
    let o = c.in_ok-write_tag-in-Ok.ensures in
    rw c.in-Ok.is (write_map _ _ _ _ _ _ _ (λ r. ok_wrote laws k l m _ o.ok r) (λ p. p) (λ e u. ok_unwritten laws k l m _ o.ok u)
    (λ e s. ok_halted laws k l m _ o.ok s) c.write.ensures)

pub returns-in_err-write_tag-in-Err : goal.returns-in_err-write_tag-in-Err
returns-in_err-write_tag-in-Err g c =
    let laws = g.met.W.Writer.writer_laws in
    let k = g.Tag.TagCode.size in
    let l = g.T.SchemaWrite.write_laws in
    let m = g.E.SchemaWrite.write_laws in
    let v = Err (g.E.SchemaWrite.model c.in-Err.error) in
    let o = c.in_err-write_tag-in-Err.ensures in
    rw c.in-Err.is (write_refused _ _ _ _ _ c.from_residual-in_err-write_tag-in-Err.ensures (side_tag_unwritten laws k l m v _ refl o.refused.0)
    (side_tag_halted laws k l m v _ refl o.refused.1))

pub returns-in_ok-write_tag-in-Err : goal.returns-in_ok-write_tag-in-Err
returns-in_ok-write_tag-in-Err g c =
    let laws = g.met.W.Writer.writer_laws in
    let k = g.Tag.TagCode.size in
    let l = g.T.SchemaWrite.write_laws in
    let m = g.E.SchemaWrite.write_laws in
    let o = c.in_ok-write_tag-in-Err.ensures in
    rw c.in-Err.is (write_map _ _ _ _ _ _ _ (λ r. err_wrote laws k l m _ o.ok r) (λ p. p) (λ e u. err_unwritten laws k l m _ o.ok u)
    (λ e s. err_halted laws k l m _ o.ok s) c.write-in-Err.ensures)

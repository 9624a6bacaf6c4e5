use Rattle.wincode_base.proofs.WriteAnswers.{write_refused, write_map}
use Rattle.wincode_derive_support.specs.Sums.{enum_write}
use Rattle.wincode_derive_support.proofs.Cases.{enum_wrote, enum_tag_unwritten, enum_part_unwritten, enum_tag_halted, enum_part_halted}
use Rattle.wincode_derive_support.proofs.enums.write_enum.Goals as goal

pub returns-in_err-write_tag : goal.returns-in_err-write_tag
returns-in_err-write_tag g c =
    let C = g.T.Cases.CasesWrite in
    let k = g.T.Tag.TagCode.size in
    let laws = g.met.W.Writer.writer_laws in
    let v = C.model (g.T.EnumParts.parts c.args.src.now) in
    let t = c.tag-tag.ensures in
    let u = rw t.is at c.in_err-write_tag.ensures.refused.0 in
    let h = rw t.is at c.in_err-write_tag.ensures.refused.1 in
    write_refused _ _ _ _ _ c.from_residual.ensures (enum_tag_unwritten laws k C.tag C.own C.part_laws v t.own u) (enum_tag_halted laws k C.tag C.own C.part_laws v h)

pub returns : goal.returns
returns g c =
    let C = g.T.Cases.CasesWrite in
    let k = g.T.Tag.TagCode.size in
    let laws = g.met.W.Writer.writer_laws in
    let x = g.T.EnumParts.parts c.args.src.now in
    let v = C.model x in
    let t = c.tag-tag.ensures in
    let o = rw t.is at c.in_ok-write_tag.ensures.ok in
    write_map C.part v _ (enum_write k C.tag C.own C.part) v _ _ (λ r. enum_wrote laws k C.tag C.own C.part_laws v t.own o r) (λ p. (t.own, p))
    (λ e u. enum_part_unwritten laws k C.tag C.own C.part_laws v t.own o u) (λ e h. enum_part_halted laws k C.tag C.own C.part_laws v o h)
    (C.answers _ _ _ _ _ _ x _ c.write_part.ensures)

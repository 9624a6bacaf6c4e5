use Rattle.std.proofs.Common.{true, None}
use Rattle.wincode_base.specs.Leaves.{number_write}
use Rattle.wincode_base.specs.Tags.{option_write}
use Rattle.wincode_base.proofs.WriteAnswers.{write_refused, write_map}
use Rattle.wincode_base.proofs.Tags.{none_wrote, none_unwritten, none_halted, some_wrote, some_tag_unwritten, some_unwritten, some_tag_halted, some_halted}
use Rattle.wincode_write.proofs.schema.tags.write_option.Goals as goal

pub returns-in_err-write_tag-in-Some : goal.returns-in_err-write_tag-in-Some
returns-in_err-write_tag-in-Some g c =
    let laws = g.met.W.Writer.writer_laws in
    let k = g.Tag.TagCode.size in
    let l = g.T.SchemaWrite.write_laws in
    let v = g.T.SchemaWrite.model c.in-Some.part in
    let o = c.in_err-write_tag-in-Some.ensures in
    rw c.in-Some.is (write_refused _ _ _ _ _ c.from_residual.ensures (some_tag_unwritten laws k l v o.refused.0) (some_tag_halted laws k l v o.refused.1))

pub returns-in_ok-write_tag-in-Some : goal.returns-in_ok-write_tag-in-Some
returns-in_ok-write_tag-in-Some g c =
    let laws = g.met.W.Writer.writer_laws in
    let k = g.Tag.TagCode.size in
    let l = g.T.SchemaWrite.write_laws in
    let o = c.in_ok-write_tag-in-Some.ensures in
    rw c.in-Some.is (write_map _ _ _ _ _ _ _ (λ r. some_wrote laws k l _ o.ok r) (λ p. p) (λ e u. some_unwritten laws k l _ o.ok u)
    (λ e s. some_halted laws k l _ o.ok s) c.write.ensures)

pub returns-in-None : goal.returns-in-None
returns-in-None g c =
    let T = g.T.SchemaWrite in
    let k = g.Tag.TagCode.size in
    let laws = g.met.W.Writer.writer_laws in
    rw c.in-None.is (write_map (number_write k true) 0 _ (option_write k T.writing) None _ _ (λ r. none_wrote laws k T.writing r) (λ p. p)
    (λ e u. none_unwritten laws k T.writing u) (λ e h. none_halted laws k T.writing h) c.write_tag.ensures)

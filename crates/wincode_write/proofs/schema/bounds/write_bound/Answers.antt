use Rattle.std.proofs.Common.{refl, true}
use Rattle.std.specs.declared.ops.Bound.TheVariants.{Included, Excluded, Unbounded}
use Rattle.wincode_base.specs.Bounds.{bound_write}
use Rattle.wincode_base.specs.Leaves.{number_write}
use Rattle.wincode_base.proofs.Bounds.{unbounded_wrote, unbounded_unwritten, unbounded_halted, bound_tag_unwritten, bound_tag_halted, bound_wrote}
use Rattle.wincode_base.proofs.Bounds.{bound_unwritten, bound_halted}
use Rattle.wincode_base.proofs.WriteAnswers.{write_refused, write_map}
use Rattle.wincode_write.proofs.schema.bounds.write_bound.Goals as goal

pub returns-in-Unbounded : goal.returns-in-Unbounded
returns-in-Unbounded g c =
    let T = g.T.SchemaWrite in
    let laws = g.met.W.Writer.writer_laws in
    rw c.in-Unbounded.is (write_map (number_write 4 true) 0 _ (bound_write T.writing) Unbounded _ _ (λ r. unbounded_wrote laws T.writing r) (λ p. p)
    (λ e u. unbounded_unwritten laws T.writing u) (λ e h. unbounded_halted laws T.writing h) c.write_tag.ensures)

pub returns-in_err-write_tag-in-Included : goal.returns-in_err-write_tag-in-Included
returns-in_err-write_tag-in-Included g c =
    let laws = g.met.W.Writer.writer_laws in
    let T = g.T.SchemaWrite in
    let end = Included (T.model c.in-Included.value) in
    let o = c.in_err-write_tag-in-Included.ensures in
    rw c.in-Included.is (write_refused _ _ _ _ _ c.from_residual.ensures (bound_tag_unwritten laws T.write_laws end o.refused.0)
    (bound_tag_halted laws T.write_laws end o.refused.1))

pub returns-in_ok-write_tag-in-Included : goal.returns-in_ok-write_tag-in-Included
returns-in_ok-write_tag-in-Included g c =
    let laws = g.met.W.Writer.writer_laws in
    let T = g.T.SchemaWrite in
    let v = T.model c.in-Included.value in
    let r = c.in_ok-write_tag-in-Included.ensures.ok in
    rw c.in-Included.is (write_map _ _ _ _ _ _ _ (λ s. bound_wrote laws T.write_laws (Included v) v r (λ x. x) refl (λ b w. w) s) (λ p. p)
    (λ e u. bound_unwritten laws T.write_laws (Included v) v r (λ x. x) refl (λ b w. w) u)
    (λ e h. bound_halted laws T.write_laws (Included v) v r (λ a x. x) h) c.write.ensures)

pub returns-in_err-write_tag-in-Excluded : goal.returns-in_err-write_tag-in-Excluded
returns-in_err-write_tag-in-Excluded g c =
    let laws = g.met.W.Writer.writer_laws in
    let T = g.T.SchemaWrite in
    let end = Excluded (T.model c.in-Excluded.value) in
    let o = c.in_err-write_tag-in-Excluded.ensures in
    rw c.in-Excluded.is (write_refused _ _ _ _ _ c.from_residual-in_err-write_tag-in-Excluded.ensures (bound_tag_unwritten laws T.write_laws end o.refused.0)
    (bound_tag_halted laws T.write_laws end o.refused.1))

pub returns-in_ok-write_tag-in-Excluded : goal.returns-in_ok-write_tag-in-Excluded
returns-in_ok-write_tag-in-Excluded g c =
    let laws = g.met.W.Writer.writer_laws in
    let T = g.T.SchemaWrite in
    let v = T.model c.in-Excluded.value in
    let r = c.in_ok-write_tag-in-Excluded.ensures.ok in
    rw c.in-Excluded.is (write_map _ _ _ _ _ _ _ (λ s. bound_wrote laws T.write_laws (Excluded v) v r (λ x. x) refl (λ b w. w) s) (λ p. p)
    (λ e u. bound_unwritten laws T.write_laws (Excluded v) v r (λ x. x) refl (λ b w. w) u)
    (λ e h. bound_halted laws T.write_laws (Excluded v) v r (λ a x. x) h) c.write-in-Excluded.ensures)

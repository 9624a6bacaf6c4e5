use Rattle.std.proofs.Common.{max, true}
use Rattle.wincode_base.proofs.Views.{listed_wrote, listed_unwritten, listed_halted}
use Rattle.wincode_base.proofs.WriteAnswers.{write_map}
use Rattle.wincode_base.specs.Views.{form_prealloc}
use Rattle.wincode_write.proofs.schema.views.SliceViewSchemaWrite.write.Goals as goal

pub returns : goal.returns
returns g c =
    let T = g.T.ZeroCopy in
    let p = form_prealloc T.size in
    let q = max T.size 1 in
    write_map _ _ _ _ _ _ _ (λ r. listed_wrote T.is_valid T.size T.form true p q _ r) (λ p. p)
    (λ e u. listed_unwritten T.is_valid T.size T.form true p q _ e u) (λ e h. listed_halted T.is_valid T.size T.form true p q _ e h)
    (rw (c.of-size.ensures, c.type_meta.ensures) at c.write_list.ensures.outcome)

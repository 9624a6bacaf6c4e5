use Rattle.std.proofs.Common.{inl, inr}
use Rattle.wincode_base.specs.Views.{form_item_read, lent_run, forms_read}
use Rattle.wincode_base.proofs.ReadAnswers.{get_refused, get_map}
use Rattle.wincode_base.proofs.Views.{lent_gives, lent_first, lent_second}
use Rattle.wincode_read.proofs.schema.views.lend_forms.Goals as goal

pub returns-in_err-n : goal.returns-in_err-n
returns-in_err-n g c =
    let T = g.T.ZeroCopy in
    let d = c.in_err-n.ensures.err in
    let h = lent_first (form_item_read T.is_valid T.size T.form) g.B.Borrowed.borrow _ _ _ d in
    get_refused (forms_read T.is_valid T.size T.form g.B.Borrowed.borrow) _ _ _ c.from_residual.ensures (h, inl d)

pub returns : goal.returns
returns g c =
    let T = g.T.ZeroCopy in
    let borrow = g.B.Borrowed.borrow in
    let items = form_item_read T.is_valid T.size T.form in
    let n = c.in_ok-n.ensures.ok in
    get_map (lent_run borrow T.size items _) _ (forms_read T.is_valid T.size T.form borrow) _ c.lend_run.result (λ v p. lent_gives items _ _ _ _ _ n p)
    (λ e p. (lent_second items borrow _ _ _ _ e n p.0, inr (_, _, n, p.1))) c.lend_run.ensures

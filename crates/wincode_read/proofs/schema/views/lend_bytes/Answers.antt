use Rattle.wincode_base.proofs.Views.{bytes_given}
use Rattle.wincode_read.proofs.schema.views.lend_bytes.Goals as goal

pub returns : goal.returns
returns g c =
    let view = c.in_ok-view.view in
    record { ok = rw c.into_bytes.ensures (bytes_given g.B.Borrowed.borrow _ _ view.n _ view.holds_forms c.in_ok-view.ensures.ok); refused = tt }

use Rattle.std.proofs.Common.{rules, ◌≤◌, ◌^◌, sym, true, refl, inr}
use Rattle.wincode_base.specs.ViewLaws.{form_write_laws}
use Rattle.wincode_base.specs.Views.{form_write, form_prealloc}
use Rattle.wincode_base.specs.WriteSequences.{nothing_stopped}
use Rattle.wincode_base.proofs.InWindow.{room_unwritten}
use Rattle.wincode_base.proofs.Runs.{unfit_unwritten}
use Rattle.wincode_base.proofs.Views.{form_room_halted}
use Rattle.wincode_base.proofs.WriteAnswers.{write_refused}
use Rattle.wincode_write.proofs.schema.pod.PodSchemaWrite.write.Goals as goal

pub returns-in_default : goal.returns-in_default
returns-in_default g c =
    let T = g.T.ZeroCopy in
    let over : 2 ^ 64 ≤ T.size = search rules in
    let writer = g.met.W.Writer.writer_laws in
    let laws = form_write_laws g.T.ZeroCopy.byte_form (λ v. v) true (form_prealloc T.size) in
    let form = form_write T.is_valid T.size T.form true (form_prealloc T.size) in
    rw c.into.ensures (record {
      ok = tt;
      value = tt;
      refused = (unfit_unwritten form c.args.src.now writer laws _ _ tt (λ can. over), nothing_stopped writer _ _ _ refl (inr (over, refl, refl)));
    })

pub returns-in_err-make_room : goal.returns-in_err-make_room
returns-in_err-make_room g c =
    let T = g.T.ZeroCopy in
    let writer = g.met.W.Writer.writer_laws in
    let laws = form_write_laws g.T.ZeroCopy.byte_form (λ v. v) true (form_prealloc T.size) in
    let form = form_write T.is_valid T.size T.form true (form_prealloc T.size) in
    let d = c.in_err-make_room.ensures.err in
    let u = room_unwritten form c.args.src.now c.in-Some.size (λ can. sym c.in-Some.ensures) _ _ writer laws _ _ _ d in
    let p = form_room_halted T.is_valid T.size T.form true (form_prealloc T.size) c.args.src.now writer c.in-Some.size c.in-Some.ensures _ d in
    write_refused form _ _ _ _ c.from_residual.ensures u p

use Rattle.std.proofs.Common.{rules, false}
use Rattle.wincode_base.proofs.Views.{form_unwritten, form_halted}
use Rattle.wincode_write.proofs.schema.views.ViewSchemaWrite.write.Goals as goal

pub returns-in_err-write : goal.returns-in_err-write
returns-in_err-write g c =
    let b = c.as_bytes-bytes in
    let law = g.T.ZeroCopy.byte_form in
    let laws = g.met.W.Writer.writer_laws in
    let d = c.in_err-write.ensures.err in
    let u = form_unwritten law false 8 b.result.now c.see_bytes.ensures b.ensures.size laws c.in_err-write.field-0.0 d in
    let p = form_halted law false 8 b.result.now c.see_bytes.ensures b.ensures.size laws c.in_err-write.field-0.0 d in
    let h = rw b.ensures.value at u in
    let k = rw b.ensures.value at p in search (rules, h, k)

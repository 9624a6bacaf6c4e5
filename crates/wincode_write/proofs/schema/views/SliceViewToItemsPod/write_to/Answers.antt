use Rattle.std.proofs.Common.{rules, true, refl, ◌≡◌, ◌<◌, ◌^◌, length}
use Rattle.wincode_base.proofs.Views.{forms_wrote, none_wrote, forms_unwritten, forms_halted, each_value}
use Rattle.wincode_base.specs.Views.{form_prealloc}
use Rattle.wincode_write.proofs.schema.views.SliceViewToItemsPod.write_to.Goals as goal

pub returns-in_err-write : goal.returns-in_err-write
returns-in_err-write g c =
    let b = c.as_bytes-bytes in
    let law = g.T.ZeroCopy.byte_form in
    let laws = g.met.W.Writer.writer_laws in
    let some : 0 < c.args.self.now.n = search rules in
    let fits : length b.result.now < 2 ^ 64 = search rules in
    let d = c.in_err-write.ensures.err in
    let u = forms_unwritten law true (form_prealloc g.T.ZeroCopy.size)
    c.args.self.now.n b.result.now c.see_bytes.ensures b.ensures.size laws c.in_err-write.field-0.0 d in
    let p = forms_halted law true (form_prealloc g.T.ZeroCopy.size)
    c.args.self.now.n b.result.now c.see_bytes.ensures b.ensures.size some fits laws c.in_err-write.field-0.0 d in
    let h = rw b.ensures.value at u in
    let k = rw b.ensures.value at p in search (rules, h, k)

pub returns-then-len-eq0 : goal.returns-then-len-eq0
returns-then-len-eq0 g c =
    let b = c.as_bytes-bytes in
    let law = g.T.ZeroCopy.byte_form in
    let none : c.args.self.now.n ≡ 0 = search rules in
    rw (← b.ensures.value) (record {
      ok = none_wrote law true (form_prealloc g.T.ZeroCopy.size)
          c.args.self.now.n b.result.now c.see_bytes.ensures b.ensures.size g.met.W.Writer.writer_laws none refl;
      value = each_value law true (form_prealloc g.T.ZeroCopy.size) c.args.self.now.n b.result.now c.see_bytes.ensures b.ensures.size;
      refused = tt;
    })

pub returns : goal.returns
returns g c =
    let b = c.as_bytes-bytes in
    let law = g.T.ZeroCopy.byte_form in
    rw (← b.ensures.value) (record {
      ok = forms_wrote law true (form_prealloc g.T.ZeroCopy.size) c.args.self.now.n b.result.now c.see_bytes.ensures b.ensures.size c.in_ok-write.ensures.ok;
      value = each_value law true (form_prealloc g.T.ZeroCopy.size) c.args.self.now.n b.result.now c.see_bytes.ensures b.ensures.size;
      refused = tt;
    })

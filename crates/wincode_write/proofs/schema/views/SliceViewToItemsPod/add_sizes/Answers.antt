use Rattle.std.proofs.Common.{rules, ◌≤◌, ◌^◌, ◌+◌, length, true, inl, refl}
use Rattle.wincode_base.proofs.Views.{forms_summed, forms_over}
use Rattle.wincode_base.specs.Views.{form_prealloc}
use Rattle.wincode_write.proofs.schema.views.SliceViewToItemsPod.add_sizes.Goals as goal

pub returns-in-Some-clause-ok : goal.returns-in-Some-clause-ok
returns-in-Some-clause-ok g c =
    let b = c.as_bytes in
    let law = g.T.ZeroCopy.byte_form in
    rw (← b.ensures.value) (forms_summed law true (form_prealloc g.T.ZeroCopy.size)
    c.args.before c.in-Some.sum c.args.self.now.n b.result.now b.ensures.size c.in-Some.ensures.1)

pub returns-in-None-clause-err : goal.returns-in-None-clause-err
returns-in-None-clause-err g c =
    let over : 2 ^ 64 ≤ c.args.before + length c.as_bytes.result.now = search rules in
    let b = c.as_bytes in
    let law = g.T.ZeroCopy.byte_form in
    rw (← b.ensures.value) (forms_over law true (form_prealloc g.T.ZeroCopy.size) c.args.before c.args.self.now.n b.result.now _ b.ensures.size over
    (rw c.write_length_encoding_overflow.ensures (tt, λ builtin. inl refl)))

use Rattle.std.proofs.Common.{rules, true, ◌<◌, ◌*◌, length}
use Rattle.wincode_base.proofs.FormRuns.{pod_writes, forms_wrote, forms_unwritten, forms_halted, pods_refused, all_each, at_once}
use Rattle.wincode_base.specs.Views.{form_write, form_prealloc}
use Rattle.wincode_write.proofs.Exits.{at_once_refused, same_error}
use Rattle.wincode_write.proofs.schema.pod.write_pods.Goals as goal

pub returns-in_err-write_forms : goal.returns-in_err-write_forms
returns-in_err-write_forms g c =
    let T = g.T.ZeroCopy in
    let laws = g.met.W.Writer.writer_laws in
    let e = c.in_err-write_forms.ensures in
    let some : 0 < length c.args.items.now = search rules in
    let w = pod_writes g.T.ZeroCopy.byte_form true (form_prealloc T.size) in
    let u = forms_unwritten w c.args.items.now _ _ laws _ e.err (λ v. (same_error (e.vast v).0, (e.vast v).1, (e.vast v).2)) in
    let p = forms_halted w c.args.items.now _ _ laws _ e.err (λ v. (same_error (e.vast v).0, (e.vast v).1, (e.vast v).2))
    (λ a. pods_refused T.is_valid T.size T.form true (form_prealloc T.size) c.args.items.now _ _ some a) in
    let b = at_once (length c.args.items.now * T.size) _ _ _ e.err (λ v. (same_error (e.vast v).0, (e.vast v).1, (e.vast v).2)) in
    at_once_refused T.size (length c.args.items.now) (form_write T.is_valid T.size T.form true (form_prealloc T.size)) _ _ _ _ c.from_residual.ensures u p b

pub returns : goal.returns
returns g c =
    let T = g.T.ZeroCopy in
    let o = c.in_ok-write_forms.ensures in
    record {
      each = record {
        ok = forms_wrote (pod_writes g.T.ZeroCopy.byte_form true (form_prealloc T.size))
            c.args.items.now _ _ g.T.ZeroCopy.byte_form o.is_valid o.ok;
        value = all_each T.is_valid c.args.items.now o.is_valid;
        refused = tt;
      };
      at_once = tt;
    }

use Rattle.std.proofs.Common.{◌≡◌, take, refl, sym, ap, ◌∙◌, get_or}
use Rattle.wincode_io.specs.Forms.{edited}
use Rattle.wincode_io.specs.Edits.{all_edited, in_first}
use Rattle.wincode_io.proofs.EditSteps.{in_first_more, edited_whole, all_none, all_more}
use Rattle.wincode_serde.proofs.laws.edit_form.Goals as goal

pub loop-value-init : goal.loop-value-init
unfolding all_edited
loop-value-init g c = record { same = refl; so_far = c.new-view.ensures.bytes; is_valid = all_none g.T.ZeroCopy.is_valid }

pub loop-value-preserved : goal.loop-value-preserved
loop-value-preserved g c =
    let s = g.T.ZeroCopy.size in
    let form = g.T.ZeroCopy.form in
    let values = c.args.values.now in
    let view = c.loop-value.view in
    let v = c.value-item.result in
    let i = c.loop-value.value-index in
    let at : v ≡ get_or values i v = c.value-item.is in
    record {
      same = c.set.ensures.same_reference ∙ c.loop-value.invariant.same;
      so_far = c.set.ensures.form ∙ edited_whole s view.bytes.now (form v) view.is_form ∙ ap (λ b. edited s b 0 (form v)) c.loop-value.invariant.so_far
          ∙ ap (λ x. edited s (all_edited s c.args.form.now (in_first form (take i values))) 0 (form x)) at
          ∙ sym (in_first_more s form c.args.form.now values i v c.loop-value-test.true);
      is_valid = all_more g.T.ZeroCopy.is_valid values i v c.loop-value-test.true at c.loop-value.invariant.is_valid c.set.ensures.is_valid;
    }

use Rattle.std.proofs.Common.{◌≡◌, take, refl, sym, ap, ◌∙◌, get_or}
use Rattle.wincode_io.specs.Forms.{edited}
use Rattle.wincode_io.specs.Edits.{all_edited, in_places}
use Rattle.wincode_io.proofs.EditSteps.{in_places_more, all_none, all_more}
use Rattle.wincode_serde.proofs.laws.edit_forms.Goals as goal

pub loop-i-init : goal.loop-i-init
unfolding all_edited
loop-i-init g c = record { same = refl; count = c.new-view.ensures.n; so_far = c.new-view.ensures.forms; is_valid = all_none (λ e. g.T.ZeroCopy.is_valid e.1) }

pub loop-i-preserved : goal.loop-i-preserved
loop-i-preserved g c =
    let s = g.T.ZeroCopy.size in
    let form = g.T.ZeroCopy.form in
    let edits = c.args.edits.now in
    let e = c.loop-i-item.result in
    let i = c.loop-i.i-index in
    let at : e ≡ get_or edits i e = c.loop-i-item.is in
    record {
      same = c.set.ensures.same_reference ∙ c.loop-i.invariant.same;
      count = c.set.ensures.n ∙ c.loop-i.invariant.count;
      so_far = c.set.ensures.forms ∙ ap (λ b. edited s b e.0 (form e.1)) c.loop-i.invariant.so_far
          ∙ ap (λ x. edited s (all_edited s c.args.forms.now (in_places form (take i edits))) x.0 (form x.1)) at
          ∙ sym (in_places_more s form c.args.forms.now edits i e c.loop-i-test.true);
      is_valid = all_more (λ x. g.T.ZeroCopy.is_valid x.1) edits i e c.loop-i-test.true at c.loop-i.invariant.is_valid c.set.ensures.is_valid;
    }

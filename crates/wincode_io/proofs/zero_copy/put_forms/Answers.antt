use borrow.Rule.Slice.PartMut.{put_mid}
use Rattle.std.proofs.Common.{List, ◌*◌, ◌+◌, ◌-◌, ◌≡◌, ◌++◌, ℕ, drop, get_or, ap, ◌∙◌, append-nil}
use Rattle.std.proofs.Math.Nat.{mul-le-mul_right}
use Rattle.std.proofs.lemmas.List.{take_all, drop_all}
use Rattle.std.proofs.lemmas.List.Elements.{All-more}
use Rattle.std.specs.List.{flat_map}
use Rattle.wincode_io.proofs.FormSteps.{joined_more, put_more}
use Rattle.wincode_io.proofs.zero_copy.put_forms.Goals as goal

pub loop-i-preserved : goal.loop-i-preserved
loop-i-preserved g c =
    let s = g.T.ZeroCopy.size in
    let t = c.size_within-size.result in
    let form = g.T.ZeroCopy.form in
    let vs = c.args.values.now in
    let i = c.loop-i.i in
    let v = c.index-values-i.result in
    let at : v ≡ get_or vs i v = c.index-values-i.is in
    let P : g.row.T.Denot → Type 0 = g.T.ZeroCopy.is_valid in
    record {
      is_valid = All-more P vs i v c.loop-i-test.true c.loop-i.invariant.is_valid (rw (← at) c.put_form.ensures.is_valid);
      joined = joined_more form s vs i v c.loop-i-test.true c.loop-i.invariant.joined (rw (← at) (g.T.ZeroCopy.byte_form.long v c.put_form.ensures.is_valid));
      so_far = ap (λ (x : List ℕ). put_mid (i * t) (i * t + t - i * t) c.loop-i.dst x) (c.put_form.ensures.form ∙ ap form at)
          ∙ put_more form s vs i v c.loop-i-test.true c.loop-i.invariant.joined t c.args.dst.now c.loop-i.dst c.size_within-size.ensures
          c.loop-i.invariant.so_far;
    }

pub returns-clause-forms : goal.returns-clause-forms
returns-clause-forms g c =
    let s = g.T.ZeroCopy.size in
    let joined = flat_map g.T.ZeroCopy.form in
    let vs = c.args.values.now in
    let i = c.loop-i.i in
    let old = c.args.dst.now in
    c.loop-i.invariant.so_far ∙ ap (λ l. joined l ++ drop (i * s) old) (take_all i vs c.loop-i-test.false)
    ∙ ap (λ l. joined vs ++ l) (drop_all (i * s) old (rw c.requires (mul-le-mul_right s c.loop-i-test.false))) ∙ append-nil (joined vs)

pub returns-clause-is_valid : goal.returns-clause-is_valid
returns-clause-is_valid g c = rw (take_all c.loop-i.i c.args.values.now c.loop-i-test.false) at c.loop-i.invariant.is_valid

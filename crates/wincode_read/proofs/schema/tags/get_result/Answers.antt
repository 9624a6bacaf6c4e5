use Rattle.std.proofs.Common.{arith, inl, inr, refl, subst, true, ◌≡◌, ◌≤◌}
use Rattle.wincode_base.specs.Leaves.{number_read}
use Rattle.wincode_base.specs.Outcomes.{Gives}
use Rattle.wincode_base.specs.TagLaws.{some_bytes, tag_refused, result_small}
use Rattle.wincode_base.specs.Tags.{result_tag, sides_read, result_read}
use Rattle.wincode_read.proofs.Exits.{tag_denied}
use Rattle.wincode_base.proofs.ReadAnswers.{get_refused}
use Rattle.wincode_base.proofs.Tags.{ok_gives, err_gives, ok_refused, err_refused, result_bad}
use Rattle.wincode_read.proofs.schema.tags.get_result.Goals as goal

pub returns-in_err-side : goal.returns-in_err-side
returns-in_err-side g c =
    let k = g.Tag.TagCode.size in
    let o = c.in_err-side.ensures in
    let T = g.T.SchemaRead.reading in
    let E = g.E.SchemaRead.reading in
    let u = tag_refused k result_tag (result_small k (some_bytes g.met.Tag.TagCode.tag_law)) (sides_read T E) _ _ _ o.refused.0 in
    get_refused (result_read k T E) _ _ _ c.from_residual.ensures (u, inl (tag_denied k (λ t. 2 ≤ t) _ _ _ o.refused.1))

pub returns-in_err-value-in-0 : goal.returns-in_err-value-in-0
returns-in_err-value-in-0 g c =
    let k = g.Tag.TagCode.size in
    let o = c.in_err-value-in-0.ensures in
    let is : c.in_ok-side.side ≡ 0 = omega arith in
    let t = subst (Gives (number_read k true).reads (g.R.Reader.state c.args.reader.now) (g.R.Reader.state c.read_tag.new.reader)) is c.in_ok-side.ensures.ok in
    get_refused _ _ _ _ c.from_residual-in_err-value-in-0.ensures (
      ok_refused k (some_bytes g.met.Tag.TagCode.tag_law) g.T.SchemaRead.reading g.E.SchemaRead.reading _ _ _ _ _ refl t o.refused.0,
      inr (inl (_, t, o.refused)),
    )

pub returns-in_ok-value-in-0 : goal.returns-in_ok-value-in-0
returns-in_ok-value-in-0 g c = record {
  ok = ok_gives g.Tag.TagCode.size (some_bytes g.met.Tag.TagCode.tag_law)
      g.T.SchemaRead.reading g.E.SchemaRead.reading _ _ _ _ c.in_ok-side.side (omega arith) c.in_ok-side.ensures.ok c.in_ok-value-in-0.ensures.ok;
  refused = tt;
}

pub returns-in_err-error-in-1 : goal.returns-in_err-error-in-1
returns-in_err-error-in-1 g c =
    let k = g.Tag.TagCode.size in
    let o = c.in_err-error-in-1.ensures in
    let is : c.in_ok-side.side ≡ 1 = omega arith in
    let t = subst (Gives (number_read k true).reads (g.R.Reader.state c.args.reader.now) (g.R.Reader.state c.read_tag.new.reader)) is c.in_ok-side.ensures.ok in
    get_refused _ _ _ _ c.from_residual-in_err-error-in-1.ensures (
      err_refused k (some_bytes g.met.Tag.TagCode.tag_law) g.T.SchemaRead.reading g.E.SchemaRead.reading _ _ _ _ _ refl t o.refused.0,
      inr (inr (_, t, o.refused)),
    )

pub returns-in_ok-error-in-1 : goal.returns-in_ok-error-in-1
returns-in_ok-error-in-1 g c = record {
  ok = err_gives g.Tag.TagCode.size (some_bytes g.met.Tag.TagCode.tag_law)
      g.T.SchemaRead.reading g.E.SchemaRead.reading _ _ _ _ c.in_ok-side.side (omega arith) c.in_ok-side.ensures.ok c.in_ok-error-in-1.ensures.ok;
  refused = tt;
}

pub returns-in_default : goal.returns-in_default
returns-in_default g c =
    let t = c.in_ok-side.ensures.ok in
    let two : 2 ≤ c.in_ok-side.side = omega arith in
    rw c.invalid_tag_encoding.ensures (record {
      ok = tt;
      refused = (result_bad g.Tag.TagCode.size (some_bytes g.met.Tag.TagCode.tag_law) g.T.SchemaRead.reading g.E.SchemaRead.reading _ _ _ _ two t, inl (two, t));
    })

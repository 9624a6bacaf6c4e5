use Rattle.std.proofs.Common.{arith, inl, inr, subst, true, ◌≡◌, ◌≤◌}
use Rattle.wincode_base.specs.BoundLaws.{bound_small}
use Rattle.wincode_base.specs.Bounds.{bound_tag, bound_part_read, bound_read}
use Rattle.wincode_base.specs.Leaves.{number_read}
use Rattle.wincode_base.specs.Outcomes.{Gives}
use Rattle.wincode_base.specs.TagLaws.{tag_refused}
use Rattle.wincode_read.proofs.Exits.{tag_denied}
use Rattle.wincode_base.proofs.Bounds.{unbounded_gives, included_gives, excluded_gives, value_refused, bound_bad}
use Rattle.wincode_base.proofs.ReadAnswers.{get_refused}
use Rattle.wincode_read.proofs.schema.bounds.get_bound.Goals as goal

pub returns-in_err-tag : goal.returns-in_err-tag
returns-in_err-tag g c =
    let o = c.in_err-tag.ensures in
    let u = tag_refused 4 bound_tag bound_small (bound_part_read g.T.SchemaRead.reading) _ _ _ o.refused.0 in
    get_refused (bound_read g.T.SchemaRead.reading) _ _ _ c.from_residual.ensures (u, inl (tag_denied 4 (λ t. 3 ≤ t) _ _ _ o.refused.1))

pub returns-in-0 : goal.returns-in-0
returns-in-0 g c = record {
  ok = unbounded_gives g.T.SchemaRead.reading _ _ (g.R.Reader.state c.read_tag.new.reader) c.in_ok-tag.tag c.in_ok-tag.ensures.ok (omega arith);
  refused = tt;
}

pub returns-in_err-value-in-1 : goal.returns-in_err-value-in-1
returns-in_err-value-in-1 g c =
    let o = c.in_err-value-in-1.ensures in
    let one : c.in_ok-tag.tag ≡ 1 = omega arith in
    let r = c.in_ok-tag.ensures.ok in
    let t = subst (Gives (number_read 4 true).reads (g.R.Reader.state c.args.reader.now) (g.R.Reader.state c.read_tag.new.reader)) one r in
    get_refused _ _ _ _ c.from_residual-in_err-value-in-1.ensures
    (value_refused g.T.SchemaRead.reading _ _ _ _ r (omega (arith, one)) _ o.refused.0, inr (inl (_, t, o.refused)))

pub returns-in_ok-value-in-1 : goal.returns-in_ok-value-in-1
returns-in_ok-value-in-1 g c = record {
  ok = included_gives g.T.SchemaRead.reading _ _ _ _ c.in_ok-tag.ensures.ok _ (omega arith) c.in_ok-value-in-1.ensures.ok;
  refused = tt;
}

pub returns-in_err-value-in-2 : goal.returns-in_err-value-in-2
returns-in_err-value-in-2 g c =
    let o = c.in_err-value-in-2.ensures in
    let two : c.in_ok-tag.tag ≡ 2 = omega arith in
    let r = c.in_ok-tag.ensures.ok in
    let t = subst (Gives (number_read 4 true).reads (g.R.Reader.state c.args.reader.now) (g.R.Reader.state c.read_tag.new.reader)) two r in
    get_refused _ _ _ _ c.from_residual-in_err-value-in-2.ensures
    (value_refused g.T.SchemaRead.reading _ _ _ _ r (omega (arith, two)) _ o.refused.0, inr (inr (_, t, o.refused)))

pub returns-in_ok-value-in-2 : goal.returns-in_ok-value-in-2
returns-in_ok-value-in-2 g c = record {
  ok = excluded_gives g.T.SchemaRead.reading _ _ _ _ c.in_ok-tag.ensures.ok _ (omega arith) c.in_ok-value-in-2.ensures.ok;
  refused = tt;
}

pub returns-in_default : goal.returns-in_default
returns-in_default g c =
    let t = c.in_ok-tag.ensures.ok in
    let three : 3 ≤ c.in_ok-tag.tag = omega arith in
    rw c.invalid_tag_encoding.ensures (record {
      ok = tt;
      refused = (bound_bad g.T.SchemaRead.reading _ _ (g.R.Reader.state c.read_tag.new.reader) _ t _ three, inl (three, t));
    })

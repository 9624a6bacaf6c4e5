use Rattle.std.proofs.Common.{arith, inl, inr, refl, subst, true, ◌≡◌, ◌≤◌}
use Rattle.wincode_base.specs.Leaves.{number_read}
use Rattle.wincode_base.specs.Outcomes.{Gives}
use Rattle.wincode_base.specs.TagLaws.{some_bytes, tag_refused, option_small}
use Rattle.wincode_base.specs.Tags.{option_tag, option_part_read, option_read}
use Rattle.wincode_read.proofs.Exits.{tag_denied}
use Rattle.wincode_base.proofs.ReadAnswers.{get_refused}
use Rattle.wincode_base.proofs.Tags.{some_gives, some_refused, option_bad}
use Rattle.wincode_read.proofs.schema.tags.get_option.Goals as goal

pub returns-in_err-tag : goal.returns-in_err-tag
returns-in_err-tag g c =
    let k = g.Tag.TagCode.size in
    let o = c.in_err-tag.ensures in
    let u = tag_refused k option_tag (option_small k (some_bytes g.met.Tag.TagCode.tag_law)) (option_part_read g.T.SchemaRead.reading) _ _ _ o.refused.0 in
    get_refused (option_read k g.T.SchemaRead.reading) _ _ _ c.from_residual.ensures (u, inl (tag_denied k (λ t. 2 ≤ t) _ _ _ o.refused.1))

pub returns-in_err-value-in-1 : goal.returns-in_err-value-in-1
returns-in_err-value-in-1 g c =
    let k = g.Tag.TagCode.size in
    let o = c.in_err-value-in-1.ensures in
    let one : c.in_ok-tag.tag ≡ 1 = omega arith in
    let t = subst (Gives (number_read k true).reads (g.R.Reader.state c.args.reader.now) (g.R.Reader.state c.read_tag.new.reader)) one c.in_ok-tag.ensures.ok in
    get_refused _ _ _ _ c.from_residual-in_err-value-in-1.ensures
    (some_refused k (some_bytes g.met.Tag.TagCode.tag_law) g.T.SchemaRead.reading _ _ _ _ _ refl t o.refused.0, inr (_, t, o.refused))

pub returns-in_ok-value-in-1 : goal.returns-in_ok-value-in-1
returns-in_ok-value-in-1 g c = record {
  ok = some_gives g.Tag.TagCode.size (some_bytes g.met.Tag.TagCode.tag_law)
      g.T.SchemaRead.reading _ _ _ _ c.in_ok-tag.tag (omega arith) c.in_ok-tag.ensures.ok c.in_ok-value-in-1.ensures.ok;
  refused = tt;
}

pub returns-in_default : goal.returns-in_default
returns-in_default g c =
    let t = c.in_ok-tag.ensures.ok in
    let two : 2 ≤ c.in_ok-tag.tag = omega arith in
    rw c.invalid_tag_encoding.ensures (record {
      ok = tt;
      refused = (option_bad g.Tag.TagCode.size (some_bytes g.met.Tag.TagCode.tag_law) g.T.SchemaRead.reading _ _ _ _ two t, inl (two, t));
    })

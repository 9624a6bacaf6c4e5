use Rattle.std.proofs.Common.{rules, true, arith, lit<, ◌≡◌, w8, w16, w32}
use Rattle.wincode_base.specs.Leaves.{number_read}
use Rattle.wincode_base.proofs.Integers.{AreSmall}
use Rattle.wincode_base.proofs.ReadAnswers.{get_refused}
use Rattle.wincode_base.proofs.Tags.{tag_refuses, tag_given, tag_taken}
use Rattle.wincode_base.proofs.tag.read_tag.Goals as goal

pub returns-in_err-take_array-in-1 : goal.returns-in_err-take_array-in-1
returns-in_err-take_array-in-1 g c =
    get_refused (number_read g.Tag.TagCode.size true) (λ t. t) _ _ c.from_residual.ensures
    (tag_refuses g.Tag.TagCode.size 1 (omega (arith, c.tag_size.ensures, c.in-1.is)) _ _ _ c.in_err-take_array-in-1.ensures.err)

pub returns-in_ok-take_array-in-1 : goal.returns-in_ok-take_array-in-1
returns-in_ok-take_array-in-1 g c =
    let small : AreSmall c.in_ok-take_array-in-1.field-0 = search rules in
    record {
      ok = tag_given w8 (lit< tt) g.Tag.TagCode.size (omega (arith, c.tag_size.ensures, c.in-1.is))
          _ _ _ _ c.in_ok-take_array-in-1.ensures.ok small c.from_le_bytes.ensures;
      refused = tt;
    }

pub returns-in_err-take_array-in-2 : goal.returns-in_err-take_array-in-2
returns-in_err-take_array-in-2 g c =
    get_refused (number_read g.Tag.TagCode.size true) (λ t. t) _ _ c.from_residual-in_err-take_array-in-2.ensures
    (tag_refuses g.Tag.TagCode.size 2 (omega (arith, c.tag_size.ensures, c.in-2.is)) _ _ _ c.in_err-take_array-in-2.ensures.err)

pub returns-in_ok-take_array-in-2 : goal.returns-in_ok-take_array-in-2
returns-in_ok-take_array-in-2 g c =
    let small : AreSmall c.in_ok-take_array-in-2.field-0 = search rules in
    record {
      ok = tag_given w16 (lit< tt) g.Tag.TagCode.size (omega (arith, c.tag_size.ensures, c.in-2.is))
          _ _ _ _ c.in_ok-take_array-in-2.ensures.ok small c.from_le_bytes-in-2.ensures;
      refused = tt;
    }

pub returns-in_err-take_array-in-4 : goal.returns-in_err-take_array-in-4
returns-in_err-take_array-in-4 g c =
    get_refused (number_read g.Tag.TagCode.size true) (λ t. t) _ _ c.from_residual-in_err-take_array-in-4.ensures
    (tag_refuses g.Tag.TagCode.size 4 (omega (arith, c.tag_size.ensures, c.in-4.is)) _ _ _ c.in_err-take_array-in-4.ensures.err)

pub returns-in_ok-take_array-in-4 : goal.returns-in_ok-take_array-in-4
returns-in_ok-take_array-in-4 g c =
    let small : AreSmall c.in_ok-take_array-in-4.field-0 = search rules in
    record {
      ok = tag_given w32 (lit< tt) g.Tag.TagCode.size (omega (arith, c.tag_size.ensures, c.in-4.is))
          _ _ _ _ c.in_ok-take_array-in-4.ensures.ok small c.from_le_bytes-in-4.ensures;
      refused = tt;
    }

pub returns-in_err-take_number-in_default : goal.returns-in_err-take_number-in_default
returns-in_err-take_number-in_default g c =
    let is : g.Tag.TagCode.size ≡ 8 = search (rules, g.met.Tag.TagCode.tag_law) in
    get_refused (number_read g.Tag.TagCode.size true) (λ t. t) _ _ c.from_residual-in_err-take_number-in_default.ensures
    (tag_refuses g.Tag.TagCode.size 8 is _ _ _ c.in_err-take_number-in_default.ensures.err)

pub returns-in_ok-take_number-in_default : goal.returns-in_ok-take_number-in_default
returns-in_ok-take_number-in_default g c =
    let is : g.Tag.TagCode.size ≡ 8 = search (rules, g.met.Tag.TagCode.tag_law) in
    record { ok = tag_taken g.Tag.TagCode.size 8 is _ _ _ c.in_ok-take_number-in_default.ensures.ok; refused = tt }

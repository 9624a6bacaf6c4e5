use Rattle.std.proofs.Common.{◌∙◌, sym}
use Rattle.wincode_base.proofs.ReadAnswers.{get_refused}
use Rattle.wincode_base.specs.Strings.{char_read}
use Rattle.wincode_base.proofs.Strings.{char_refuses, char_denied, char_cut, char_not, char_gives}
use Rattle.wincode_base.specs.declared.error.ReadError.TheVariants as reading
use Rattle.wincode_read.proofs.schema.strings.take_char.Goals as goal

pub returns-in_err-lead : goal.returns-in_err-lead
returns-in_err-lead g c =
    let r = char_denied _ _ _ c.in_err-lead.ensures.err in
    get_refused char_read (λ x. x) _ _ c.from_residual.ensures (char_refuses _ _ _ r, r)

pub returns-then-count-eq0 : goal.returns-then-count-eq0
returns-then-count-eq0 g c =
    let peeked = c.in_ok-lead.ensures.ok in
    let none = sym c.announced-count.ensures ∙ c.if-count-eq0.true in
    rw c.invalid_char_lead.ensures (record {
      ok = tt;
      refused = (
        char_refuses _ _ (reading.InvalidCharLead _) (peeked.0.0, peeked.0.1, (peeked.1, none)),
        (peeked.0.0, peeked.0.1, (peeked.1, none)),
      );
    })

pub returns-in_err-bytes : goal.returns-in_err-bytes
returns-in_err-bytes g c =
    let peeked = c.in_ok-lead.ensures.ok in
    let fills = rw c.in_err-bytes.was at c.fill_exact.follows.holds-at-none in
    let r = char_cut _ _ _ c.in_ok-lead.lead _ c.in_err-bytes.field-0.0 c.announced-count.ensures peeked.0 peeked.1
    (fills.0, fills.2.0, fills.2.1) in
    get_refused char_read (λ x. x) _ _ c.from_residual-in_err-bytes.ensures (char_refuses _ _ (reading.Io c.in_err-bytes.field-0.0) r, r)

pub returns-in_err-text : goal.returns-in_err-text
returns-in_err-text g c =
    let peeked = c.in_ok-lead.ensures.ok in
    let fills = rw c.in_ok-bytes.was at c.fill_exact.follows.holds-at-none in
    let shown = c.in_ok-bytes.ensures.shown in
    let r = char_not _ _ _ c.in_ok-lead.lead _ _ c.in_err-text.field-0.0 c.announced-count.ensures peeked.0 peeked.1 (fills.0, fills.1.1) shown.0 shown.1
    (c.in_err-text.ensures.cases.0, c.in_err-text.ensures.valid_len, c.in_err-text.ensures.fault) in
    get_refused char_read (λ x. x) _ _ c.from_residual-in_err-text.ensures (char_refuses _ _ (reading.InvalidUtf8Encoding c.in_err-text.field-0.0) r, r)

pub returns : goal.returns
returns g c =
    let peeked = c.in_ok-lead.ensures.ok in
    let fills = rw c.in_ok-bytes.was at c.fill_exact.follows.holds-at-none in
    let shown = c.in_ok-bytes.ensures.shown in
    let text = c.in_ok-text.ensures.cases in
    let steps = c.in-Some.ensures.steps in
    record {
      ok = char_gives _ _ _ _ c.in_ok-lead.lead _ c.in-Some.found _ _ c.announced-count.ensures peeked.0 peeked.1 (fills.0, fills.1.1) shown.0 shown.1 text.1
          (sym text.0 ∙ sym c.chars.ensures.rest ∙ steps.0) c.consume_unchecked.ensures;
      refused = tt;
    }

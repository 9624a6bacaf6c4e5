use Rattle.std.proofs.Common.{rules, refl}
use Rattle.wincode_base.proofs.ReadAnswers.{get_map}
use Rattle.example_schemas.proofs.Records.{record_denied, record_gives, record_refused, record_read_through, record_served, ok_by}
use Rattle.example_schemas.specs.Records.{record_read}
use Rattle.example_schemas.proofs.faults.read_record.Goals as goal

pub returns-in_err-window-clause-gave : goal.returns-in_err-window-clause-gave
returns-in_err-window-clause-gave c =
    let d = record_denied _ _ c.in_err-window.field-0.0 c.in_err-window.ensures.err in
    let r = d.0 in
    let p = d.1 in search (rules, r, p)

pub returns-in_err-window-clause-succeeds : goal.returns-in_err-window-clause-succeeds
returns-in_err-window-clause-succeeds c = λ some front. absurd
    (record_served _ _ c.in_err-window.field-0.0 c.in_err-window.ensures.err c.in_err-window.ensures.failed some front)

pub returns-clause-gave : goal.returns-clause-gave
returns-clause-gave c =
    let w = c.in_ok-window.ensures.ok in
    get_map record_read _ record_read _ c.get.result (λ d x. record_gives w d.0 d.1 d.2 x) (λ e x. record_refused w e refl x) c.get.ensures

pub returns-clause-succeeds : goal.returns-clause-succeeds
returns-clause-succeeds c =
    λ some front. ok_by c.get.result (λ e r. record_read_through c.in_ok-window.ensures.ok e refl refl front r.0) c.get.ensures.refused

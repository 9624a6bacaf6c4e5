use Rattle.std.proofs.Common.{sym, subst, true}
use Rattle.std.specs.Prelude.{IsUtf8}
use Rattle.wincode_base.proofs.Strings.{body_refuses, body_gives, borrow_refuses}
use Rattle.wincode_base.specs.declared.error.ReadError.TheVariants as reading
use Rattle.wincode_base.proofs.ReadAnswers.{get_refused}
use Rattle.wincode_base.specs.Strings.{body_read}
use Rattle.wincode_read.proofs.schema.strings.borrow_text.Goals as goal

pub returns-in_err-bytes : goal.returns-in_err-bytes
returns-in_err-bytes g c =
    let d = c.in_err-bytes.ensures.err in
    let h = borrow_refuses c.args.n _ _ c.in_err-bytes.field-0.0 d in get_refused (body_read c.args.n 1 true) _ _ _ c.from_residual.ensures (h, d)

pub returns-in-Ok : goal.returns-in-Ok
returns-in-Ok g c =
    let text = c.in-Ok.ensures in
    record { ok = body_gives _ _ _ _ _ c.in_ok-bytes.ensures.ok.takes text.0 (subst IsUtf8 (sym text.0) text.1); refused = tt }

pub returns-in-Err : goal.returns-in-Err
returns-in-Err g c =
    let takes = c.in_ok-bytes.ensures.ok.takes in
    rw c.invalid_utf8_encoding.ensures (record {
      ok = tt;
      refused = (body_refuses ⊥ ⊥ c.args.n 1 true _ _ (reading.InvalidUtf8Encoding _) (λ x. absurd x) (λ x. absurd x) (_, takes, c.in-Err.ensures), (_, takes, c.in-Err.ensures));
    })

use Rattle.std.proofs.Common.{◌≡◌, ℕ, ap, refl, subst, sym, drop, false}
use Rattle.std.specs.Str.{error_len}
use Rattle.std.specs.Str.Lossy.{utf8_error_len}
use Rattle.std.specs.String.{from_utf8_error_cause}
use Rattle.std.proofs.lemmas.Str.{IsUtf8-string_bytes}
use Rattle.wincode_base.specs.FixedSizeLaws.{arrays_takes}
use Rattle.wincode_base.proofs.ReadAnswers.{get_refused}
use Rattle.std.specs.Prelude.{string_bytes}
use Rattle.wincode_base.specs.Strings.{body_read}
use Rattle.wincode_base.proofs.Strings.{body_refuses, body_gives}
use Rattle.wincode_base.specs.declared.error.ReadError.TheVariants as reading
use Rattle.wincode_read.proofs.schema.strings.take_text.Goals as goal

pub returns-in_err-bytes : goal.returns-in_err-bytes
returns-in_err-bytes g c =
    let d = c.in_err-bytes.ensures.err in
    let h = body_refuses ⊥ (Unit {0}) c.args.n 0 false (g.R.Reader.state c.args.reader.now) (g.R.Reader.state c.copy_bytes.new.reader) c.in_err-bytes.field-0.0
    (λ x. absurd x) (λ x. refl) d in
    get_refused (body_read c.args.n 0 false) (λ s. string_bytes s) _ _ c.from_residual.ensures (h, d)

pub returns-in-Ok : goal.returns-in-Ok
returns-in-Ok g c =
    let vec = c.in-Ok.ensures.ok in
    record {
      ok = body_gives _ _ _ _ _ (arrays_takes _ _ _ _ _ c.in_ok-bytes.ensures.ok c.consume_unchecked.ensures) (ap (λ v. v.items) vec)
          (IsUtf8-string_bytes c.in-Ok.text);
      refused = tt;
    }

pub returns-in-Err : goal.returns-in-Err
returns-in-Err g c =
    let text = c.in-Err.ensures in
    let takes = arrays_takes _ _ _ _ _ c.in_ok-bytes.ensures.ok c.consume_unchecked.ensures in
    let P : ℕ → Type 0 = λ n. error_len (from_utf8_error_cause c.in-Err.error) ≡ utf8_error_len (drop n c.in_ok-bytes.bytes.items) in
    let fault = subst P (sym text.valid_len) text.fault in
    rw c.invalid_utf8_encoding.ensures (rw c.utf8_error.ensures (record {
      ok = tt;
      refused = (
        body_refuses ⊥ (Unit {0}) c.args.n 0 false _ _ (reading.InvalidUtf8Encoding _) (λ x. absurd x) (λ x. refl)
            (_, takes, (λ u. absurd (cc (text.succeeds u)), text.valid_len, fault)),
        (_, takes, (λ u. absurd (cc (text.succeeds u)), text.valid_len, fault)),
      );
    }))

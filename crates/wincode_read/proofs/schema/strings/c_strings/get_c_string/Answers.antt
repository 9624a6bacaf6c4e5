use Rattle.std.proofs.Common.{rules, refl}
use Rattle.wincode_base.specs.CStrings.{c_string_read}
use Rattle.wincode_base.proofs.CStrings.{bytes_refused, bytes_nul, no_text}
use Rattle.wincode_base.proofs.ReadAnswers.{get_refused}
use Rattle.wincode_read.proofs.schema.strings.c_strings.get_c_string.Goals as goal

pub returns-in_err-bytes : goal.returns-in_err-bytes
returns-in_err-bytes g c =
    let o = c.in_err-bytes.ensures in
    get_refused c_string_read _ _ _ c.from_residual.ensures (bytes_refused _ o.refused)

pub returns-in-Ok-Err : goal.returns-in-Ok-Err
returns-in-Ok-Err g c =
    let xs = c.in_ok-bytes.bytes.items in
    let e = rw c.in-Ok-Err.field-0-is at c.in-Ok-Err.ensures.err in
    let u = bytes_nul xs c.in_ok-bytes.ensures.ok _ (refl, no_text xs _ e.1 e.2) in
    record { ok = tt; refused = u }

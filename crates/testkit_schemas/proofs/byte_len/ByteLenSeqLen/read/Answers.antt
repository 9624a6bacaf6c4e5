use Rattle.std.proofs.Common.{rules, true, ◌<◌, get_or}
use Rattle.wincode_base.specs.Lengths.{IsLength}
use Rattle.wincode_base.specs.FixedSizeLaws.{arrays_takes, takes_gives, denied_refuses}
use Rattle.wincode_base.specs.declared.error.ReadError.TheVariants as reading
use Rattle.testkit_schemas.specs.ByteLengths.{byte_scheme, byte_length, length_byte, one_byte}
use Rattle.testkit_schemas.proofs.byte_len.ByteLenSeqLen.read.Goals as goal

pub returns-in_err-bytes : goal.returns-in_err-bytes
returns-in_err-bytes g c =
    let e = reading.Io c.in_err-bytes.field-0.0 in
    let d = c.in_err-bytes.ensures.err in
    let h = denied_refuses (IsLength byte_scheme c.args._prealloc) 1 (λ b n l. length_byte c.args._prealloc n b l) 0 true _ _ e d in search (rules, h, d)

pub returns : goal.returns
returns g c =
    let t = arrays_takes _ _ _ _ _ c.in_ok-bytes.ensures.ok c.consume_unchecked.ensures in
    let small : get_or c.in_ok-bytes.bytes 0 0 < 256 = search rules in
    record {
      ok = takes_gives (IsLength byte_scheme c.args._prealloc) 1 _ _ _ _ t (byte_length c.args._prealloc _ _ small (one_byte _ t.size));
      refused = tt;
    }

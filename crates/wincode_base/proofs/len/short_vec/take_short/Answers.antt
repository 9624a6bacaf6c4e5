use Rattle.std.proofs.Common.{refl, ap, length, arith, length-append}
use Rattle.wincode_io.specs.ShortNumbers.{short_encoding}
use Rattle.wincode_base.specs.Short.{short_read}
use Rattle.wincode_base.proofs.ReadAnswers.{get_refused}
use Rattle.wincode_base.proofs.Short.{short_denied, short_overflow, short_given}
use Rattle.wincode_base.proofs.len.short_vec.take_short.Goals as goal

pub returns-in-Some : goal.returns-in-Some
returns-in-Some g c =
    let fills = rw c.in_ok-bytes.was at c.fill_buf.follows.holds-at-none in
    record {
      ok = short_given (fills.0, fills.1.1) c.in_ok-bytes.ensures.shown _ _ c.in-Some.ensures (rw c.short_size.ensures at c.consume_unchecked.ensures);
      refused = tt;
    }

pub returns-in-None : goal.returns-in-None
returns-in-None g c =
    let fills = rw c.in_ok-bytes.was at c.fill_buf.follows.holds-at-none in
    rw c.read_length_encoding_overflow.ensures (record {
      ok = tt;
      refused = (short_overflow (fills.0, fills.1.1) c.in_ok-bytes.ensures.shown _ c.in-None.ensures, ((fills.0, fills.1.1), refl));
    })

pub returns-in_err-bytes : goal.returns-in_err-bytes
returns-in_err-bytes g c =
    let fills = rw c.in_err-bytes.was at c.fill_buf.follows.holds-at-none in
    get_refused short_read (λ n. n) _ _ c.from_residual.ensures (short_denied _ _ _ (fills.0, fills.2.0, fills.2.1))

pub consume_unchecked-requires : goal.consume_unchecked-requires
consume_unchecked-requires g c =
    let fills = rw c.in_ok-bytes.was at c.fill_buf.follows.holds-at-none in
    let begins = c.in-Some.ensures.1 in
    let whole = ap length begins.1 in
    omega (arith, fills.1.0, whole, c.short_size.ensures, length-append (short_encoding c.in-Some.value) begins.0)

use Rattle.std.proofs.Common.{arith}
use Rattle.wincode_io.specs.ShortNumberLaws.{short_in_one, short_in_two, short_in_three}
use Rattle.wincode_base.proofs.len.short_vec.put_short.Goals as goal

pub returns-then-value-lt128 : goal.returns-then-value-lt128
returns-then-value-lt128 c = rw (short_in_one c.args.value c.if-value-lt128.true) c.put_front.ensures.put

pub returns-then-high-lt128 : goal.returns-then-high-lt128
returns-then-high-lt128 c = rw (short_in_two c.args.value (omega (arith, c.if-value-lt128.false)) c.if-high-lt128.true) c.put_front-then-high-lt128.ensures.put

pub returns : goal.returns
returns c = rw (short_in_three c.args.value (omega (arith, c.if-high-lt128.false))) c.put_front-2.ensures.put

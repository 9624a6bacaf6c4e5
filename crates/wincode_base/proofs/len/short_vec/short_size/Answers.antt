use Rattle.std.proofs.Common.{arith, sym, ap, length}
use Rattle.wincode_io.specs.ShortNumberLaws.{short_in_one, short_in_two, short_in_three}
use Rattle.wincode_base.proofs.len.short_vec.short_size.Goals as goal

pub returns-then-value-lt128 : goal.returns-then-value-lt128
returns-then-value-lt128 c = sym (ap length (short_in_one _ c.if-value-lt128.true))

pub returns-then-value-lt16384 : goal.returns-then-value-lt16384
returns-then-value-lt16384 c = sym (ap length (short_in_two c.args.value (omega (arith, c.if-value-lt128.false)) (omega (arith, c.if-value-lt16384.true))))

pub returns-else-value-lt16384 : goal.returns-else-value-lt16384
returns-else-value-lt16384 c = sym (ap length (short_in_three c.args.value (omega (arith, c.if-value-lt16384.false))))

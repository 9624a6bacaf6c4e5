use Rattle.std.proofs.Common.{sym, ap, arith, length}
use Rattle.wincode_io.specs.NumberLaws.{length-le}
use Rattle.wincode_io.specs.ShortNumberLaws.{short_in_one, short_in_two, short_in_three}
use Rattle.wincode_describe.proofs.parts.length_size.Goals as goal

pub returns-in-Eight : goal.returns-in-Eight
returns-in-Eight c = rw c.in-Eight.is (sym (length-le 8 c.args.count))

pub returns-in-Short : goal.returns-in-Short
returns-in-Short c = rw c.in-Short.is (sym (ap length (short_in_one c.args.count c.if-count-lt128.true)))

pub returns-in-Short-2 : goal.returns-in-Short-2
returns-in-Short-2 c = rw c.in-Short.is (sym (ap length (short_in_two c.args.count (omega (arith, c.if-count-lt128.false))
    (omega (arith, c.if-count-lt16384.true)))))

pub returns-in-Short-3 : goal.returns-in-Short-3
returns-in-Short-3 c = rw c.in-Short.is (sym (ap length (short_in_three c.args.count (omega (arith, c.if-count-lt16384.false)))))

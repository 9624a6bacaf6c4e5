use Rattle.std.proofs.Common.{arith}
use Rattle.wincode_io.specs.ShortNumberLaws.{short_in_one, short_in_two, short_in_three}
use Rattle.wincode_base.proofs.len.short_vec.write_short.Goals as goal

pub returns-then-value-lt128-clause-ok : goal.returns-then-value-lt128-clause-ok
returns-then-value-lt128-clause-ok g c = rw (short_in_one _ c.if-value-lt128.true) c.write.ensures.ok

pub returns-then-value-lt128-clause-err : goal.returns-then-value-lt128-clause-err
returns-then-value-lt128-clause-err g c = rw (short_in_one _ c.if-value-lt128.true) c.write.ensures.err

pub returns-then-high-lt128-clause-ok : goal.returns-then-high-lt128-clause-ok
returns-then-high-lt128-clause-ok g c = rw (short_in_two c.args.value (omega (arith, c.if-value-lt128.false)) c.if-high-lt128.true)
    c.write-then-high-lt128.ensures.ok

pub returns-then-high-lt128-clause-err : goal.returns-then-high-lt128-clause-err
returns-then-high-lt128-clause-err g c = rw (short_in_two c.args.value (omega (arith, c.if-value-lt128.false)) c.if-high-lt128.true)
    c.write-then-high-lt128.ensures.err

pub returns-clause-ok : goal.returns-clause-ok
returns-clause-ok g c = rw (short_in_three c.args.value (omega (arith, c.if-high-lt128.false))) c.write-2.ensures.ok

pub returns-clause-err : goal.returns-clause-err
returns-clause-err g c = rw (short_in_three c.args.value (omega (arith, c.if-high-lt128.false))) c.write-2.ensures.err

use Rattle.wincode_io.specs.Numbers as numbers
use Rattle.wincode_write.proofs.schema.leaves.BoolSchemaWrite.encode_front.Goals as goal

pub returns-in_ok-size : goal.returns-in_ok-size
unfolding numbers.le
returns-in_ok-size c = let e = c.in_ok-size.ensures in rw c.if-src.true (e.0, (tt, e.1.1), tt)

pub returns-in_ok-size-2 : goal.returns-in_ok-size-2
unfolding numbers.le
returns-in_ok-size-2 c = let e = c.in_ok-size-2.ensures in rw c.if-src.false (e.0, (tt, e.1.1), tt)

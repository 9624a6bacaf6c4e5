use Rattle.std.proofs.Common.{refl}
use Rattle.wincode_base.proofs.Integers.{bool_puts, bool_refuses, byte_taken, is_bool}
use Rattle.wincode_read.proofs.schema.leaves.BoolSchemaRead.read.Goals as goal

pub returns-then-byte-gt1 : goal.returns-then-byte-gt1
returns-then-byte-gt1 g c = let t = byte_taken _ _ _ c.in_ok-bytes.ensures.ok in rw c.invalid_bool_encoding.ensures
    (record { ok = tt; refused = (bool_refuses _ _ _ c.if-byte-gt1.true t, (c.if-byte-gt1.true, t)); same = refl })

pub returns : goal.returns
returns g c = record { ok = bool_puts _ _ _ _ (byte_taken _ _ _ c.in_ok-bytes.ensures.ok) (is_bool _ c.if-byte-gt1.false); refused = tt; same = tt }

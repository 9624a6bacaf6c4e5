use Rattle.std.proofs.Common.{rules, false, lit<, w64, refl}
use Rattle.wincode_base.proofs.Integers.{AreSmall, number_puts, number_refuses}
use Rattle.wincode_base.proofs.ReadAnswers.{read_refused}
use Rattle.wincode_read.proofs.schema.leaves.UsizeSchemaRead.read.Goals as goal

pub returns-in_err-bytes : goal.returns-in_err-bytes
returns-in_err-bytes g c = let d = c.in_err-bytes.ensures.err in read_refused _ _ _ _ _ _ c.from_residual.ensures refl (number_refuses 8 false _ _ _ d, d)

pub returns : goal.returns
returns g c =
    let small : AreSmall c.in_ok-bytes.bytes = search rules in
    record { ok = number_puts w64 (lit< tt) false _ _ _ _ c.in_ok-bytes.ensures.ok small c.from_le_bytes.ensures; refused = tt; same = tt }

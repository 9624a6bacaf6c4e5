use Rattle.std.proofs.Common.{rules, lit<, w64}
use Rattle.wincode_base.proofs.Integers.{AreSmall, number_taken}
use Rattle.wincode_base.proofs.reader.take_number.Goals as goal

pub returns-clause-ok : goal.returns-clause-ok
returns-clause-ok g c =
    let small : AreSmall c.in_ok-bytes.bytes = search rules in
    number_taken w64 (lit< tt) _ _ _ _ c.in_ok-bytes.ensures.ok small c.from_le_bytes.ensures

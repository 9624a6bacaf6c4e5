use Rattle.std.proofs.Common.{rules, refl, true, lit<}
use Rattle.std.specs.Int.{w16}
use Rattle.std.specs.Prelude.{FitsSigned}
use Rattle.std.proofs.lemmas.Int.{to_z-of_z}
use Rattle.wincode_base.proofs.Integers.{AreSmall, signed_puts, signed_refuses}
use Rattle.wincode_base.proofs.ReadAnswers.{read_refused}
use Rattle.wincode_read.proofs.schema.leaves.numbers.I16SchemaRead.read.Goals as goal

pub returns-in_err-bytes : goal.returns-in_err-bytes
returns-in_err-bytes g c = let d = c.in_err-bytes.ensures.err in read_refused _ _ _ _ _ _ c.from_residual.ensures refl
    (signed_refuses w16 refl (lit< tt) true _ _ _ d, d)

pub returns : goal.returns
returns g c =
    let fits : FitsSigned w16 c.from_le_bytes.result = search rules in
    let small : AreSmall c.in_ok-bytes.bytes = search rules in
    record {
      ok = rw (to_z-of_z w16 c.from_le_bytes.result fits)
          (signed_puts w16 refl (lit< tt) true _ _ _ _ c.in_ok-bytes.ensures.ok small c.from_le_bytes.ensures);
      refused = tt;
      same = tt;
    }

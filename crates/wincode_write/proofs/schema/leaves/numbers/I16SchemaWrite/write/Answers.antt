use Rattle.std.proofs.Common.{rules, true, ◌≡◌}
use Rattle.std.specs.Prelude.{FitsSigned}
use Rattle.std.specs.Int.{w16, to_le_bytes, cast_unsigned}
use Rattle.std.proofs.lemmas.Int.{to_z-of_z}
use Rattle.wincode_base.proofs.Integers.{signed_wrote, signed_unwritten, signed_halted}
use Rattle.wincode_base.proofs.WriteAnswers.{write_refused}
use Rattle.wincode_base.specs.Leaves.{signed_write}
use Rattle.wincode_write.proofs.schema.leaves.numbers.I16SchemaWrite.write.Goals as goal

pub returns-in_err-write : goal.returns-in_err-write
returns-in_err-write g c =
    let fits : FitsSigned w16 c.args.src.now = search rules in
    let is : c.to_le_bytes.result ≡ to_le_bytes w16 (cast_unsigned w16 c.args.src.now) = simp to_z-of_z at c.to_le_bytes.ensures in
    let laws = g.met.W.Writer.writer_laws in
    let d = c.in_err-write.ensures.err in
    let u = signed_unwritten w16 true c.args.src.now is laws _ d in
    let p = signed_halted w16 true c.args.src.now is laws _ d in
    write_refused (signed_write w16 true) c.args.src.now _ _ _ c.from_residual.ensures u p

pub returns : goal.returns
returns g c =
    let fits : FitsSigned w16 c.args.src.now = search rules in
    let is : c.to_le_bytes.result ≡ to_le_bytes w16 (cast_unsigned w16 c.args.src.now) = simp to_z-of_z at c.to_le_bytes.ensures in
    record { ok = signed_wrote w16 true c.args.src.now is c.in_ok-write.ensures.ok; value = fits; refused = tt }

use Rattle.std.proofs.Common.{inr}
use Rattle.std.proofs.lemmas.Result.{err_from_is_err_and}
use Rattle.wincode_serde.proofs.serde.AnySerialize.serialize_into.Goals as goal

-- all was written, and the end of it was refused
pub returns-in_err-finish-clause-err : goal.returns-in_err-finish-clause-err
returns-in_err-finish-clause-err g c =
    let p = err_from_is_err_and c.from_residual-in_err-finish.result c.from_residual-in_err-finish.ensures.1 in
    let refused = c.in_err-finish.ensures in
    rw (p.1, p.2) (inr (g.W.Writer.state c.write.new.writer, c.in_ok-write.ensures.ok, (refused.unmoved, refused.err)))

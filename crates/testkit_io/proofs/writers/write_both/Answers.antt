use Rattle.std.proofs.Common.{inr}
use Rattle.std.proofs.lemmas.Result.{IfErr-weaker}
use Rattle.testkit_io.proofs.writers.write_both.Goals as goal

pub returns-clause-err : goal.returns-clause-err
returns-clause-err g c = IfErr-weaker c.write-2.result _ _ (λ e d. inr (_, c.in_ok-write.ensures.ok, d)) c.write-2.ensures.err

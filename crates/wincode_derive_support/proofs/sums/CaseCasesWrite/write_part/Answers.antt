use Rattle.std.proofs.Common.{Ok, Err}
use Rattle.wincode_base.specs.Tags.{sides_write}
use Rattle.wincode_base.proofs.WriteAnswers.{write_map}
use Rattle.wincode_derive_support.proofs.Cases.{first_wrote, first_unwritten, first_halted, other_wrote, other_unwritten, other_halted}
use Rattle.wincode_derive_support.proofs.sums.CaseCasesWrite.write_part.Goals as goal

pub returns-in-Ok : goal.returns-in-Ok
returns-in-Ok g c =
    let first = g.A.SchemaWrite.writing in
    let other = g.Rest.CasesWrite.part in
    let v = g.A.SchemaWrite.model c.in-Ok.first in
    rw c.in-Ok.is (write_map first v _ (sides_write first other) (Ok v) _ c.write.result (λ r. first_wrote first other v r) (λ p. p)
    (λ e u. first_unwritten first other v u) (λ e s. first_halted first other v s) c.write.ensures)

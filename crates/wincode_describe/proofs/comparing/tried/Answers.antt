use Rattle.std.proofs.Common.{ℕ, List, subst}
use Rattle.wincode_describe.specs.Compared.{IsWitness}
use Rattle.wincode_describe.proofs.comparing.tried.Goals as goal

pub returns-then-is_witness : goal.returns-then-is_witness
returns-then-is_witness c =
    let P : List ℕ → Type 0 = λ b. IsWitness c.args.old.now c.args.new.now b in
    subst P c.as_slice.ensures.value (c.is_witness.ensures c.if-is_witness.true)

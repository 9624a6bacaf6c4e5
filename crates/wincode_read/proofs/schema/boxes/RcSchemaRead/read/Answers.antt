use Rattle.std.proofs.Common.{refl, inl}
use Rattle.wincode_base.specs.Sequences.{refuses_unspared}
use Rattle.wincode_base.proofs.ReadAnswers.{read_refused}
use Rattle.wincode_read.proofs.schema.boxes.RcSchemaRead.read.Goals as goal

pub returns-in_err-shared : goal.returns-in_err-shared
returns-in_err-shared g c =
    let o = c.in_err-shared.ensures in
    read_refused _ _ _ _ _ _ c.from_residual.ensures refl (refuses_unspared o.refused.0, inl o.refused)

pub returns-in-Ok : goal.returns-in-Ok
returns-in-Ok g c = record { ok = rw c.in-Ok.ensures.ok c.in_ok-shared.ensures.ok; refused = tt; same = tt }

use Rattle.std.proofs.Common.{rules, ◌<◌, ◌^◌, refl, inr}
use Rattle.wincode_base.specs.LengthLaws.{length_write_laws}
use Rattle.wincode_base.specs.Lengths.{length_write}
use Rattle.wincode_base.specs.Short.{short_scheme}
use Rattle.wincode_base.specs.WriteSequences.{nothing_stopped}
use Rattle.wincode_base.proofs.WriteAnswers.{write_refused}
use Rattle.wincode_base.proofs.Runs.{unfit_unwritten}
use Rattle.wincode_base.proofs.Short.{length_wrote, length_unwritten, length_halted}
use Rattle.wincode_base.proofs.len.short_vec.ShortU16SeqLen.write.Goals as goal

pub returns-in_err-write_short : goal.returns-in_err-write_short
returns-in_err-write_short g c =
    let small : c.args.len < 2 ^ 16 = search rules in
    let laws = g.met.W.Writer.writer_laws in
    let d = rw c.in_ok-value.ensures.ok at c.in_err-write_short.ensures.err in
    write_refused (length_write short_scheme) _ _ _ _ c.from_residual-in_err-write_short.ensures
    (length_unwritten c.args.len small laws _ d) (length_halted c.args.len small laws _ d)

pub returns : goal.returns
returns g c =
    let small : c.args.len < 2 ^ 16 = search rules in
    record { ok = length_wrote c.args.len small (rw c.in_ok-value.ensures.ok at c.in_ok-write_short.ensures.ok); value = tt; refused = tt }

pub returns-in_err-value : goal.returns-in_err-value
returns-in_err-value g c =
    let laws = g.met.W.Writer.writer_laws in
    let d = c.in_err-value.ensures.err in
    write_refused (length_write short_scheme) _ _ _ _ c.from_residual.ensures
    (unfit_unwritten (length_write short_scheme) c.args.len laws (length_write_laws short_scheme) _ _ d.1.0 (λ q. absurd (d.0 q)))
    (nothing_stopped laws _ _ _ refl (inr (refl, d)))

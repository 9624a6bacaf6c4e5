use Rattle.std.proofs.Common.{rules, refl, ◌<◌, ◌^◌, length}
use Rattle.std.proofs.lemmas.Result.{IfOk-weaker, IfErr-weaker}
use Rattle.wincode_recode.proofs.Shapes.{unrecoded_bytes}
use Rattle.wincode_recode.proofs.recoding.recode_as.Goals as goal

pub returns-clause-ok : goal.returns-clause-ok
returns-clause-ok c = IfOk-weaker c.recode_input.result _ _ (λ text r. r refl) c.recode_input.ensures.ok

pub returns-clause-kept : goal.returns-clause-kept
returns-clause-kept c = IfOk-weaker c.recode_input.result _ _ (λ text r. r refl) c.recode_input.ensures.kept

pub returns-clause-err : goal.returns-clause-err
returns-clause-err c =
    let small : length c.args.bytes.now < 2 ^ 64 = search rules in
    IfErr-weaker c.recode_input.result _ _ (λ e u. unrecoded_bytes c.args.shape c.args.bytes.now e small u) c.recode_input.ensures.err

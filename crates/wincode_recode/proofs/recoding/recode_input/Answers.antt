use Rattle.std.proofs.lemmas.Result.{IfOk-weaker, IfErr-weaker}
use Rattle.wincode_recode.proofs.Shapes.{recoded, kept, unrecoded}
use Rattle.wincode_recode.specs.declared.recoding.KnownShape.TheVariants.{Nested, Text, Short, Record, Pairs}
use Rattle.wincode_recode.proofs.recoding.recode_input.Goals as goal

pub returns-in-Nested-clause-ok : goal.returns-in-Nested-clause-ok
returns-in-Nested-clause-ok g c = rw c.in-Nested.is (IfOk-weaker c.recode_by.result _ _ (λ text r known. recoded Nested _ _ text.items (r known))
    c.recode_by.ensures.ok)

pub returns-in-Nested-clause-kept : goal.returns-in-Nested-clause-kept
returns-in-Nested-clause-kept g c = rw c.in-Nested.is (IfOk-weaker c.recode_by.result _ _ (λ text r known. kept Nested _ _ text.items (r known))
    c.recode_by.ensures.ok)

pub returns-in-Nested-clause-err : goal.returns-in-Nested-clause-err
returns-in-Nested-clause-err g c = rw c.in-Nested.is (IfErr-weaker c.recode_by.result _ _ (λ e u. unrecoded Nested _ _ e u) c.recode_by.ensures.err)

pub returns-in-Text-clause-ok : goal.returns-in-Text-clause-ok
returns-in-Text-clause-ok g c = rw c.in-Text.is (IfOk-weaker c.recode_by-in-Text.result _ _ (λ text r known. recoded Text _ _ text.items (r known))
    c.recode_by-in-Text.ensures.ok)

pub returns-in-Text-clause-kept : goal.returns-in-Text-clause-kept
returns-in-Text-clause-kept g c = rw c.in-Text.is (IfOk-weaker c.recode_by-in-Text.result _ _ (λ text r known. kept Text _ _ text.items (r known))
    c.recode_by-in-Text.ensures.ok)

pub returns-in-Text-clause-err : goal.returns-in-Text-clause-err
returns-in-Text-clause-err g c = rw c.in-Text.is (IfErr-weaker c.recode_by-in-Text.result _ _ (λ e u. unrecoded Text _ _ e u) c.recode_by-in-Text.ensures.err)

pub returns-in-Short-clause-ok : goal.returns-in-Short-clause-ok
returns-in-Short-clause-ok g c = rw c.in-Short.is (IfOk-weaker c.recode_by-in-Short.result _ _ (λ text r known. recoded Short _ _ text.items (r known))
    c.recode_by-in-Short.ensures.ok)

pub returns-in-Short-clause-kept : goal.returns-in-Short-clause-kept
returns-in-Short-clause-kept g c = rw c.in-Short.is (IfOk-weaker c.recode_by-in-Short.result _ _ (λ text r known. kept Short _ _ text.items (r known))
    c.recode_by-in-Short.ensures.ok)

pub returns-in-Short-clause-err : goal.returns-in-Short-clause-err
returns-in-Short-clause-err g c = rw c.in-Short.is (IfErr-weaker c.recode_by-in-Short.result _ _ (λ e u. unrecoded Short _ _ e u)
    c.recode_by-in-Short.ensures.err)

pub returns-in-Record-clause-ok : goal.returns-in-Record-clause-ok
returns-in-Record-clause-ok g c = rw c.in-Record.is (IfOk-weaker c.recode_by-in-Record.result _ _ (λ text r known. recoded Record _ _ text.items (r known))
    c.recode_by-in-Record.ensures.ok)

pub returns-in-Record-clause-kept : goal.returns-in-Record-clause-kept
returns-in-Record-clause-kept g c = rw c.in-Record.is (IfOk-weaker c.recode_by-in-Record.result _ _ (λ text r known. kept Record _ _ text.items (r known))
    c.recode_by-in-Record.ensures.ok)

pub returns-in-Record-clause-err : goal.returns-in-Record-clause-err
returns-in-Record-clause-err g c = rw c.in-Record.is (IfErr-weaker c.recode_by-in-Record.result _ _ (λ e u. unrecoded Record _ _ e u)
    c.recode_by-in-Record.ensures.err)

pub returns-in-Pairs-clause-ok : goal.returns-in-Pairs-clause-ok
returns-in-Pairs-clause-ok g c = rw c.in-Pairs.is (IfOk-weaker c.recode_by-in-Pairs.result _ _ (λ text r known. recoded Pairs _ _ text.items (r known))
    c.recode_by-in-Pairs.ensures.ok)

pub returns-in-Pairs-clause-kept : goal.returns-in-Pairs-clause-kept
returns-in-Pairs-clause-kept g c = rw c.in-Pairs.is (IfOk-weaker c.recode_by-in-Pairs.result _ _ (λ text r known. kept Pairs _ _ text.items (r known))
    c.recode_by-in-Pairs.ensures.ok)

pub returns-in-Pairs-clause-err : goal.returns-in-Pairs-clause-err
returns-in-Pairs-clause-err g c = rw c.in-Pairs.is (IfErr-weaker c.recode_by-in-Pairs.result _ _ (λ e u. unrecoded Pairs _ _ e u)
    c.recode_by-in-Pairs.ensures.err)

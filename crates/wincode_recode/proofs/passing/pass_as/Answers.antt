use Rattle.std.proofs.lemmas.Result.{IfErr-weaker}
use Rattle.wincode_recode.proofs.PassedOn.{ok_weaker, passed_as, whole_refused, nested_refused, text_short, short_short, record_short, pairs_short, passed_soundly, not_passed_tells, list_not_passed_tells, numbers_write}
use Rattle.wincode_base.specs.Lengths.{bincode, preallocation_limit}
use Rattle.wincode_recode.specs.Shapes.{numbers_read, read_of, write_of}
use Rattle.wincode_recode.specs.declared.recoding.KnownShape.TheVariants.{Nested, Text, Short, Record, Pairs}
use Rattle.wincode_recode.proofs.passing.pass_as.Goals as goal

pub returns-in-Nested-clause-ok : goal.returns-in-Nested-clause-ok
returns-in-Nested-clause-ok g c = rw c.in-Nested.is (ok_weaker c.pass_list.result (λ p. passed_as Nested _ _ _ _ _ p.0 p.1) c.pass_list.ensures.ok)

pub returns-in-Nested-clause-err : goal.returns-in-Nested-clause-err
returns-in-Nested-clause-err g c = rw c.in-Nested.is (IfErr-weaker c.pass_list.result _ _ (λ e u. nested_refused g.met.W.Writer.writer_laws _ _ _ _ _ e u)
    c.pass_list.ensures.err)

pub returns-in-Text-clause-ok : goal.returns-in-Text-clause-ok
returns-in-Text-clause-ok g c = rw c.in-Text.is (ok_weaker c.pass_value.result (λ p. passed_as Text _ _ _ _ _ p.0 p.1) c.pass_value.ensures.ok)

pub returns-in-Text-clause-err : goal.returns-in-Text-clause-err
returns-in-Text-clause-err g c = rw c.in-Text.is (IfErr-weaker c.pass_value.result _ _
    (λ e u. whole_refused Text _ _ _ _ _ g.met.W.Writer.writer_laws text_short e u) c.pass_value.ensures.err)

pub returns-in-Short-clause-ok : goal.returns-in-Short-clause-ok
returns-in-Short-clause-ok g c = rw c.in-Short.is (ok_weaker c.pass_value-in-Short.result (λ p. passed_as Short _ _ _ _ _ p.0 p.1)
    c.pass_value-in-Short.ensures.ok)

pub returns-in-Short-clause-err : goal.returns-in-Short-clause-err
returns-in-Short-clause-err g c = rw c.in-Short.is (IfErr-weaker c.pass_value-in-Short.result _ _
    (λ e u. whole_refused Short _ _ _ _ _ g.met.W.Writer.writer_laws short_short e u) c.pass_value-in-Short.ensures.err)

pub returns-in-Record-clause-ok : goal.returns-in-Record-clause-ok
returns-in-Record-clause-ok g c = rw c.in-Record.is (ok_weaker c.pass_value-in-Record.result (λ p. passed_as Record _ _ _ _ _ p.0 p.1)
    c.pass_value-in-Record.ensures.ok)

pub returns-in-Record-clause-err : goal.returns-in-Record-clause-err
returns-in-Record-clause-err g c = rw c.in-Record.is (IfErr-weaker c.pass_value-in-Record.result _ _
    (λ e u. whole_refused Record _ _ _ _ _ g.met.W.Writer.writer_laws record_short e u) c.pass_value-in-Record.ensures.err)

pub returns-in-Pairs-clause-ok : goal.returns-in-Pairs-clause-ok
returns-in-Pairs-clause-ok g c = rw c.in-Pairs.is (ok_weaker c.pass_value-in-Pairs.result (λ p. passed_as Pairs _ _ _ _ _ p.0 p.1)
    c.pass_value-in-Pairs.ensures.ok)

pub returns-in-Pairs-clause-err : goal.returns-in-Pairs-clause-err
returns-in-Pairs-clause-err g c = rw c.in-Pairs.is (IfErr-weaker c.pass_value-in-Pairs.result _ _
    (λ e u. whole_refused Pairs _ _ _ _ _ g.met.W.Writer.writer_laws pairs_short e u) c.pass_value-in-Pairs.ensures.err)

pub returns-in-Nested-clause-sound : goal.returns-in-Nested-clause-sound
returns-in-Nested-clause-sound g c = ok_weaker c.pass_list.result (λ p. passed_soundly p.0 p.1) c.pass_list.ensures.ok

pub returns-in-Nested-clause-told : goal.returns-in-Nested-clause-told
returns-in-Nested-clause-told g c = IfErr-weaker c.pass_list.result _ _ (λ e u. list_not_passed_tells (bincode preallocation_limit) _ numbers_read _ numbers_write _ _ _ _ e u) c.pass_list.ensures.err

pub returns-in-Text-clause-sound : goal.returns-in-Text-clause-sound
returns-in-Text-clause-sound g c = ok_weaker c.pass_value.result (λ p. passed_soundly p.0 p.1) c.pass_value.ensures.ok

pub returns-in-Text-clause-told : goal.returns-in-Text-clause-told
returns-in-Text-clause-told g c = IfErr-weaker c.pass_value.result _ _ (λ e u. not_passed_tells _ (read_of Text) _ (write_of Text) _ _ _ _ e u) c.pass_value.ensures.err

pub returns-in-Short-clause-sound : goal.returns-in-Short-clause-sound
returns-in-Short-clause-sound g c = ok_weaker c.pass_value-in-Short.result (λ p. passed_soundly p.0 p.1) c.pass_value-in-Short.ensures.ok

pub returns-in-Short-clause-told : goal.returns-in-Short-clause-told
returns-in-Short-clause-told g c = IfErr-weaker c.pass_value-in-Short.result _ _ (λ e u. not_passed_tells _ (read_of Short) _ (write_of Short) _ _ _ _ e u) c.pass_value-in-Short.ensures.err

pub returns-in-Record-clause-sound : goal.returns-in-Record-clause-sound
returns-in-Record-clause-sound g c = ok_weaker c.pass_value-in-Record.result (λ p. passed_soundly p.0 p.1) c.pass_value-in-Record.ensures.ok

pub returns-in-Record-clause-told : goal.returns-in-Record-clause-told
returns-in-Record-clause-told g c = IfErr-weaker c.pass_value-in-Record.result _ _ (λ e u. not_passed_tells _ (read_of Record) _ (write_of Record) _ _ _ _ e u) c.pass_value-in-Record.ensures.err

pub returns-in-Pairs-clause-sound : goal.returns-in-Pairs-clause-sound
returns-in-Pairs-clause-sound g c = ok_weaker c.pass_value-in-Pairs.result (λ p. passed_soundly p.0 p.1) c.pass_value-in-Pairs.ensures.ok

pub returns-in-Pairs-clause-told : goal.returns-in-Pairs-clause-told
returns-in-Pairs-clause-told g c = IfErr-weaker c.pass_value-in-Pairs.result _ _ (λ e u. not_passed_tells _ (read_of Pairs) _ (write_of Pairs) _ _ _ _ e u) c.pass_value-in-Pairs.ensures.err

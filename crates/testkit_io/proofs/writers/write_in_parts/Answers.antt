use Rattle.std.proofs.Common.{◌≡◌, ◌+◌, ◌-◌, ◌/◌, length, take, drop, inr, subst, arith, length-take, length-drop}
use Rattle.std.proofs.lemmas.Result.{IfErr-weaker}
use Rattle.wincode_io.specs.Writers.{BytesWriteRefused}
use Rattle.testkit_io.proofs.writers.write_in_parts.Goals as goal

pub returns-clause-err : goal.returns-clause-err
returns-clause-err g c =
    let all = c.args.bytes.now in
    let half = length all / 2 in
    let rest = take (length all - half) (drop half all) in
    let same : length (take (half / 2) rest) + length (take (length rest - half / 2) (drop (half / 2) rest)) + 0 + 0 ≡ length (drop half all) =
    simp (length-take, length-drop) (omega arith) in
    let mid = g.W.Writer.state c.write.new.self in
    let new = g.W.Writer.state c.write_within.new.writer in
    IfErr-weaker c.write_within.result _ _ (λ e d. inr (mid, c.in_ok-write.ensures.ok, subst (λ k. BytesWriteRefused k mid new e) same d))
    c.write_within.ensures.err

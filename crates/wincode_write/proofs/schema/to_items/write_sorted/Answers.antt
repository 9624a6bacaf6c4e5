use Rattle.std.proofs.Common.{rules, ◌≡◌, length, arith}
use Rattle.wincode_base.specs.PairLaws.{pair_write_laws}
use Rattle.wincode_base.proofs.Walks.{walk_all}
use Rattle.wincode_base.proofs.WriteAnswers.{write_refused}
use Rattle.wincode_write.proofs.Pending.{pending_start, pending_put, pending_unput, pending_written, pending_refused, pending_halted}
use Rattle.wincode_write.proofs.schema.to_items.write_sorted.Goals as goal

pub loop-key-init : goal.loop-key-init
loop-key-init g c = (
  pending_start g.met.W.Writer.writer_laws (pair_write_laws g.K.SchemaWrite.write_laws g.V.SchemaWrite.write_laws)
      _ c.into_iter-key-iterator.ensures.into_iter_gives.0,
  omega (arith, c.requires.size),
)

-- a pair was refused, or the block
pub returns-in_err-filled : goal.returns-in_err-filled
returns-in_err-filled g c =
    let writer = g.met.W.Writer.writer_laws in
    let laws = pair_write_laws g.K.SchemaWrite.write_laws g.V.SchemaWrite.write_laws in
    let w = c.loop-key.invariant.0 in
    let d = pending_unput writer laws {e = (c.in-Some.key.now, c.in-Some.value.now)} w c.in-Some.ensures.steps
    (c.in_err-filled.ensures.err w.pending w.encoded w.each) in
    write_refused _ _ _ _ _ c.from_residual.ensures d.0 d.1

pub loop-key-preserved : goal.loop-key-preserved
loop-key-preserved g c =
    let writer = g.met.W.Writer.writer_laws in
    let laws = pair_write_laws g.K.SchemaWrite.write_laws g.V.SchemaWrite.write_laws in
    let w = c.loop-key.invariant.0 in
    let o = c.in_ok-filled.ensures.ok w.pending w.encoded w.each in
    (pending_put writer laws {e = (c.in-Some.key.now, c.in-Some.value.now)} w c.in-Some.ensures.steps o.0 o.1, c.in_ok-filled.ensures.place)

pub returns-in_err-write : goal.returns-in_err-write
returns-in_err-write g c =
    let writer = g.met.W.Writer.writer_laws in
    let laws = pair_write_laws g.K.SchemaWrite.write_laws g.V.SchemaWrite.write_laws in
    let d = c.in_err-write.ensures.err in
    let u = pending_refused writer laws c.loop-key.invariant.0 d in
    let p = pending_halted writer laws c.requires.one_size c.loop-key.invariant.0 d in
    write_refused _ _ _ _ _ c.from_residual-in_err-write.ensures u p

pub returns : goal.returns
returns g c =
    let writer = g.met.W.Writer.writer_laws in
    let laws = pair_write_laws g.K.SchemaWrite.write_laws g.V.SchemaWrite.write_laws in
    let none : length c.loop-key.key-iterator ≡ 0 = search rules in
    let all = walk_all writer laws (pending_written writer laws c.loop-key.invariant.0 c.in_ok-write.ensures.ok) none in
    record { ok = all.0; value = all.1; refused = tt }

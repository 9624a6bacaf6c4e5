use Rattle.std.proofs.Common.{rules, ◌≡◌}
use Rattle.wincode_io.specs.SinkWriters.{sink_writer}
use Rattle.wincode_io.specs.WriterLaws.{writer_sound_trans}
use Rattle.wincode_io.specs.Streams.{stream_state}
use Rattle.wincode_recode.proofs.PassedOn.{err_passed, stream_refused, stream_relayed, stream_unfinished, told_unfinished}
use Rattle.wincode_recode.specs.Shapes.{word_of}
use Rattle.wincode_recode.specs.Passing.{RelayTells}
use Rattle.wincode_recode.specs.Streaming.{StreamRelayRefused}
use Rattle.wincode_recode.proofs.streaming.relay_stream.Goals as goal

pub returns-in_err-pass_as-clause-err : goal.returns-in_err-pass_as-clause-err
returns-in_err-pass_as-clause-err g c =
    let named : c.args.shape.now ≡ word_of c.in-Some.known = search rules in
    let state = g.K.Sink.state in
    err_passed (StreamRelayRefused c.args.shape.now (stream_state g.S.Source.state c.args.reader.now) state c.args.writer.now c.pass_as.new.writer)
    c.from_residual.result _ c.from_residual.ensures
    (stream_refused state c.args.shape.now c.in-Some.known named (stream_state g.S.Source.state c.args.reader.now) c.args.writer.now c.pass_as.new.writer
    c.pass_as.new.writer _ c.in_err-pass_as.ensures.err)

pub returns-in-Ok-clause-ok : goal.returns-in-Ok-clause-ok
returns-in-Ok-clause-ok g c =
    let named : c.args.shape.now ≡ word_of c.in-Some.known = search rules in
    stream_relayed g.K.Sink.state c.args.shape.now c.in-Some.known named (stream_state g.S.Source.state c.args.reader.now) c.args.writer.now c.pass_as.new.writer
    c.finish.new.self c.in_ok-pass_as.ensures.ok c.in_ok-pass_as.ensures.sound.0 c.in-Ok.ensures.ok c.in-Ok.ensures.unmoved

pub returns-in-Err-clause-err : goal.returns-in-Err-clause-err
returns-in-Err-clause-err g c =
    let named : c.args.shape.now ≡ word_of c.in-Some.known = search rules in
    rw c.unwritten.ensures (stream_unfinished g.K.Sink.state c.args.shape.now c.in-Some.known named (stream_state g.S.Source.state c.args.reader.now) c.args.writer.now
    c.pass_as.new.writer c.finish.new.self c.in-Err.error c.in_ok-pass_as.ensures.ok c.in-Err.ensures.unmoved c.in-Err.ensures.err)

pub returns-in-Ok-clause-sound : goal.returns-in-Ok-clause-sound
returns-in-Ok-clause-sound g c =
    let so = c.in_ok-pass_as.ensures.sound.1 in
    (so.0, writer_sound_trans so.1 c.in-Ok.ensures.sound)

pub returns-in_err-pass_as-clause-told : goal.returns-in_err-pass_as-clause-told
returns-in_err-pass_as-clause-told g c =
    let state = g.K.Sink.state in
    err_passed (RelayTells (stream_state g.S.Source.state c.args.reader.now) (stream_state g.S.Source.state c.pass_as.new.reader)
    (sink_writer state c.args.writer.now) (sink_writer state c.pass_as.new.writer))
    c.from_residual.result _ c.from_residual.ensures c.in_err-pass_as.ensures.told.1

pub returns-in-Err-clause-told : goal.returns-in-Err-clause-told
returns-in-Err-clause-told g c =
    let state = g.K.Sink.state in
    rw c.unwritten.ensures (told_unfinished _ _ (sink_writer state c.args.writer.now) (sink_writer state c.pass_as.new.writer)
    (sink_writer state c.finish.new.self) c.in_ok-pass_as.ensures.sound.1 c.in-Err.error c.in-Err.ensures.err)

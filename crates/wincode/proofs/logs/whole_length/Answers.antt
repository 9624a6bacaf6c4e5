use Rattle.std.proofs.Common.{◌∙◌, ◌-◌, refl, sym, ap, arith, min, length, length-append, IsTrue, ◌<◌, ◌^◌}
use Rattle.wincode_io.specs.PlaceLaws.{sound_trans}
use Rattle.wincode_io.specs.Streams.{stream_state}
use Rattle.wincode_io.specs.Writers.{byte_limit}
use Rattle.wincode.proofs.Positions.{gave_position}
use Rattle.wincode.proofs.WholeParts.{counted_whole, gave_one_more, none_in_front, none_left}
use Rattle.wincode.proofs.logs.whole_length.Goals as goal

pub returns-in-None-clause-ok : goal.returns-in-None-clause-ok
returns-in-None-clause-ok g c = λ known small some.
    let reads = g.T.SchemaRead.reading.reads in
    let state = g.S.Source.state in
    let before = c.args.reader.now in
    let old = c.loop.reader in
    let told : IsTrue (state old.source).is_known = rw c.loop.invariant.is_known known in
    let so = c.loop.invariant.whole known in
    let none = c.in-None.ensures.none refl in
    counted_whole reads g.met.T.SchemaRead.read_laws.one_front some (stream_state state before).rest (stream_state state old).rest before.position old.position _
    so.1 so.0 (none_in_front reads some (stream_state state old).rest (none.1 told)) small
    (c.saturating_sub.ensures ∙ ap (λ e. e - c.position-start.result) c.loop.invariant.end
    ∙ ap (λ s. min old.position byte_limit - s) c.position-start.ensures)

pub returns-then-says_none-clause-ok : goal.returns-then-says_none-clause-ok
returns-then-says_none-clause-ok g c = λ known small some.
    let reads = g.T.SchemaRead.reading.reads in
    let state = g.S.Source.state in
    let before = c.args.reader.now in
    let old = c.loop.reader in
    let told : IsTrue (state old.source).is_known = rw c.loop.invariant.is_known known in
    let so = c.loop.invariant.whole known in
    let size = ap length so.1.joins ∙ length-append so.1.front (stream_state state old).rest in
    let less : length (stream_state state old).rest < 2 ^ 64 = omega (arith, size, small) in
    let refused = rw c.in-Some-Err.field-0-is at c.in-Some-Err.ensures.some.refused in
    let none = none_left g.T.SchemaRead.reading (stream_state state old) _ c.in-Some-Err.error (sym c.if-says_none.ensures) refused told less in
    counted_whole reads g.met.T.SchemaRead.read_laws.one_front some (stream_state state before).rest (stream_state state old).rest before.position old.position _
    so.1 so.0 none small
    (c.saturating_sub-then-says_none.ensures ∙ ap (λ e. e - c.position-start.result) c.loop.invariant.end
    ∙ ap (λ s. min old.position byte_limit - s) c.position-start.ensures)

pub loop-preserved : goal.loop-preserved
loop-preserved g c =
    let reads = g.T.SchemaRead.reading.reads in
    let state = g.S.Source.state in
    let before = c.args.reader.now in
    let old = c.loop.reader in
    let now = c.next_of.new.reader in
    let gives = (rw c.in-Some-Ok.field-0-is at c.in-Some-Ok.ensures.some.ok).1 in
    record {
      sound = sound_trans c.loop.invariant.sound gives.sound;
      is_known = gives.kept.is_known ∙ c.loop.invariant.is_known;
      end = c.position-end.ensures;
      whole = λ known.
          let so = c.loop.invariant.whole known in
          let told : IsTrue (state old.source).is_known = rw c.loop.invariant.is_known known in
          let gone = gave_position reads old.position now.position old.at_hand now.at_hand old.has_failed now.has_failed (state old.source) (state now.source) _
          gives told in (
            omega (arith, so.0, gone.2),
            gave_one_more reads (stream_state state before).rest before.position old.position now.position old.at_hand now.at_hand old.has_failed
                now.has_failed (state old.source) (state now.source) _ so.1 so.0 gives told,
          );
    }

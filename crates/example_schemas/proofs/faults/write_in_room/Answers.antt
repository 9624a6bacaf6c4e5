use Rattle.std.proofs.Common.{rules, ◌≡◌, ◌∙◌, ◌≤◌, ap, map, length, refl, subst, arith}
use Rattle.std.proofs.lemmas.List.{map-id}
use Rattle.wincode_io.specs.WriterLaws.{same_refl, writer_sound_refl}
use Rattle.wincode_io.specs.Writers.{HasRoom}
use Rattle.wincode_base.specs.Outcomes.{Wrote}
use Rattle.example_schemas.specs.Records.{record_write}
use Rattle.example_schemas.proofs.Records.{record_written_through, record_through}
use Rattle.example_schemas.proofs.faults.write_in_room.Goals as goal

pub returns-in_err-write-clause-ok : goal.returns-in_err-write-clause-ok
returns-in_err-write-clause-ok g c =
    let src = c.args.src in
    let full : length src.2 ≡ 32 = search rules in
    let state = g.W.Writer.state in
    let old = state c.args.writer.now in
    let fits : 41 ≤ g.W.Writer.room old.content = omega (arith, c.requires.room, g.met.W.Writer.ready_room c.args.writer.now) in
    let window = c.new-window.ensures in
    let a = c.new-window.result in
    let b = c.write.new.writer in
    let o = c.in_err-write.ensures in
    let has : HasRoom 41 old old = record {
      unmoved = record { same = same_refl old; content = refl };
      sound = writer_sound_refl old;
      fits = fits;
      ready =
          c.requires.room;
    } in
    absurd (record_written_through (src.0, (src.1, map (λ n. n) src.2)) (ap length (map-id src.2) ∙ full) old old (state a.writer.now) (state b.writer.now)
    a.writer.ghost_name b.writer.ghost_name a.left b.left _ has (ap state window.writer) window.left o.refused.0 o.refused.1)

pub returns-clause-wrote : goal.returns-clause-wrote
returns-clause-wrote g c =
    let src = c.args.src in
    let full : length src.2 ≡ 32 = search rules in
    let state = g.W.Writer.state in
    let old = state c.args.writer.now in
    let fits : 41 ≤ g.W.Writer.room old.content = omega (arith, c.requires.room, g.met.W.Writer.ready_room c.args.writer.now) in
    let a = c.new-window.result in
    let b = c.write.new.writer in
    let r = record_through (src.0, (src.1, map (λ n. n) src.2)) (ap length (map-id src.2) ∙ full) old (state a.writer.now) (state b.writer.now)
    a.writer.ghost_name b.writer.ghost_name a.left b.left (ap state c.new-window.ensures.writer) fits c.in_ok-write.ensures.ok in
    let w = subst (λ bytes. Wrote record_write old (state b.writer.now) (src.0, (src.1, bytes))) (map-id src.2) r in search (rules, w)

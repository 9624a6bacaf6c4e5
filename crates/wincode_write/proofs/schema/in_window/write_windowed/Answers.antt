use Rattle.std.proofs.Common.{rules, ◌∙◌, sym, ap, ◌<◌, ◌^◌}
use Rattle.wincode_base.proofs.WriteAnswers.{write_refused, write_map}
use Rattle.wincode_base.specs.InWindow.{windowed_write}
use Rattle.wincode_base.proofs.InWindow.{written_size, room_unwritten, windowed_wrote, windowed_unwritten, dynamic_halted, room_halted, static_inside}
use Rattle.wincode_base.proofs.Runs.{window_unwritten, window_stopped}
use Rattle.wincode_write.proofs.schema.in_window.write_windowed.Goals as goal

pub returns-in_err-make_room-in-Static : goal.returns-in_err-make_room-in-Static
returns-in_err-make_room-in-Static g c = let T = g.T.SchemaWrite.writing in let v = g.T.SchemaWrite.model c.args.src.now in let laws =
    g.T.SchemaWrite.write_laws in let is = sym c.type_meta.ensures ∙ c.in-Static.is in let sized = written_size _ _ T.can T.size _ _ _ laws.statics is in
    let d = c.in_err-make_room-in-Static.ensures.err in
    let u = windowed_unwritten T v (room_unwritten T v _ (sized v) _ _ g.met.W.Writer.writer_laws laws _ _ _ d) in
    let p = room_halted T v g.met.W.Writer.writer_laws _ is d in write_refused _ _ _ _ _ c.from_residual.ensures u p

pub returns-in_err-write-in-Static : goal.returns-in_err-write-in-Static
returns-in_err-write-in-Static g c = let T = g.T.SchemaWrite.writing in let v = g.T.SchemaWrite.model c.args.src.now in let laws =
    g.T.SchemaWrite.write_laws in let is = sym c.type_meta.ensures ∙ c.in-Static.is in let sized = written_size _ _ T.can T.size _ _ _ laws.statics is in
    let small : c.in-Static.size < 2 ^ 64 = search rules in
    let window = c.new-window.ensures in
    let same = ap g.W.Writer.state window.writer in
    let made = c.in_ok-make_room-in-Static.ensures.ok in
    let a = c.new-window.result in
    let b = c.write.new.writer in
    let o = c.in_err-write-in-Static.ensures in
    let u = windowed_unwritten T v (window_unwritten T v c.in-Static.size (sized v, small) _ _ (g.W.Writer.state a.writer.now) (g.W.Writer.state b.writer.now)
    a.writer.ghost_name b.writer.ghost_name a.left b.left _ made same window.left o.refused.0) in
    let p = window_stopped T v c.in-Static.size (sized v, small) _ _ (g.W.Writer.state a.writer.now) (g.W.Writer.state b.writer.now)
    a.writer.ghost_name b.writer.ghost_name a.left b.left _ made same window.left o.refused.0 {k = windowed_write T} o.refused.1
    (λ cannot inside added r. static_inside T v T.meta _ added _ is cannot inside r) in
    write_refused (windowed_write T) v _ _ _ c.from_residual-in_err-write-in-Static.ensures (search (rules, u)) (search (rules, p))

pub returns-in-Dynamic : goal.returns-in-Dynamic
returns-in-Dynamic g c =
    let T = g.T.SchemaWrite.writing in
    let v = g.T.SchemaWrite.model c.args.src.now in
    write_map T v _ _ v _ _ (λ r. windowed_wrote T v r) (λ p. p) (λ e u. windowed_unwritten T v u)
    (λ e s. dynamic_halted T v (sym c.type_meta.ensures ∙ c.in-Dynamic.is) s) c.write-in-Dynamic.ensures

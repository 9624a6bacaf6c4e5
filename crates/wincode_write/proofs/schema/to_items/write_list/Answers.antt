use Rattle.std.proofs.Common.{rules, ◌∙◌, sym, ap, map, refl, inr, Some}
use Rattle.std.proofs.lemmas.List.{length-map}
use Rattle.wincode_base.specs.Lists.{parts_write, list_write_of}
use Rattle.wincode_base.specs.ListLaws.{parts_write_laws}
use Rattle.wincode_base.proofs.WriteAnswers.{write_refused, write_map}
use Rattle.wincode_base.proofs.InWindow.{room_unwritten}
use Rattle.wincode_base.proofs.Runs.{known_size, list_size, list_over, unfit_unwritten, window_unwritten, window_stopped, whole_wrote}
use Rattle.wincode_base.proofs.Runs.{whole_unwritten, parts_halted, textless_halted, bytes_are, text_at, textless_at, span_is, span_halted}
use Rattle.wincode_base.proofs.Runs.{whole_room_halted}
use Rattle.wincode_write.proofs.schema.to_items.write_list.Goals as goal

pub returns-in-Unknown-clause-outcome : goal.returns-in-Unknown-clause-outcome
returns-in-Unknown-clause-outcome g c =
    let T = g.T.SchemaWrite in
    let s = g.Len.SeqLen.scheme in
    let k = g.row.COUNT in
    let z = c.args.size in
    let list = parts_write s k T.writing in
    let xs = g.C.ToItems.listed c.args.src.now in
    let vs = map T.model xs in
    let W = g.met.W.Writer.writer_laws in
    let laws = parts_write_laws s k g.C.ToItems.listed T.is_valid T.model T.writing g.T.SchemaWrite.write_laws in
    write_map list vs _ (list_write_of s k z T.writing) vs _ _ (λ r. whole_wrote s k z T.writing vs r) (λ p. p) (λ e u. whole_unwritten s k z T.writing vs u)
    (λ e h. parts_halted s k z T.writing vs c.in-Unknown.is h) c.write_parts.ensures.outcome

pub returns-in_err-length-clause-outcome : goal.returns-in_err-length-clause-outcome
returns-in_err-length-clause-outcome g c =
    let T = g.T.SchemaWrite in
    let s = g.Len.SeqLen.scheme in
    let k = g.row.COUNT in
    let z = c.args.size in
    let list = parts_write s k T.writing in
    let xs = g.C.ToItems.listed c.args.src.now in
    let vs = map T.model xs in
    let W = g.met.W.Writer.writer_laws in
    let laws = parts_write_laws s k g.C.ToItems.listed T.is_valid T.model T.writing g.T.SchemaWrite.write_laws in
    let many = length-map xs T.model ∙ sym c.count-n.ensures.count in
    let known = known_size z c.in_default.not-Unknown in
    let d = textless_at s _ _ _ many c.in_err-length.ensures.err in
    write_refused (list_write_of s k z T.writing) vs _ _ _ c.from_residual.ensures
    (whole_unwritten s k z T.writing vs (unfit_unwritten list vs W laws _ _ d.1.0 (λ q. absurd (d.0 q.0))))
    (textless_halted s k z T.writing vs W known refl d)

pub returns-in-None-clause-outcome : goal.returns-in-None-clause-outcome
returns-in-None-clause-outcome g c =
    let T = g.T.SchemaWrite in
    let s = g.Len.SeqLen.scheme in
    let k = g.row.COUNT in
    let z = c.args.size in
    let list = parts_write s k T.writing in
    let xs = g.C.ToItems.listed c.args.src.now in
    let vs = map T.model xs in
    let W = g.met.W.Writer.writer_laws in
    let laws = parts_write_laws s k g.C.ToItems.listed T.is_valid T.model T.writing g.T.SchemaWrite.write_laws in
    let many = length-map xs T.model ∙ sym c.count-n.ensures.count in
    let known = known_size z c.in_default.not-Unknown in
    let none = sym c.times_behind.ensures ∙ c.in-None.is in
    let has = text_at s _ _ many c.in_ok-length.ensures.ok.0 in
    let over = list_over T.writing c.count-n.result vs many s k z c.requires.size c.in_ok-length.length c.in_ok-length.ensures.ok.1 known none in
    record {
      ok = tt;
      value = tt;
      refused = (
        whole_unwritten s k z T.writing vs (unfit_unwritten list vs W laws _ _ (rw c.write_length_encoding_overflow.ensures tt) over),
        span_halted s k z T.writing vs has _ (bytes_are s z _ _ _ _ many c.in_ok-length.ensures.ok.1 none) W known refl
            (refl, rw c.write_length_encoding_overflow.ensures refl),
      );
    }

pub returns-in_err-make_room-clause-outcome : goal.returns-in_err-make_room-clause-outcome
returns-in_err-make_room-clause-outcome g c =
    let T = g.T.SchemaWrite in
    let s = g.Len.SeqLen.scheme in
    let k = g.row.COUNT in
    let z = c.args.size in
    let list = parts_write s k T.writing in
    let xs = g.C.ToItems.listed c.args.src.now in
    let vs = map T.model xs in
    let W = g.met.W.Writer.writer_laws in
    let laws = parts_write_laws s k g.C.ToItems.listed T.is_valid T.model T.writing g.T.SchemaWrite.write_laws in
    let many = length-map xs T.model ∙ sym c.count-n.ensures.count in
    let known = known_size z c.in_default.not-Unknown in
    let sized = list_size T.writing c.count-n.result vs many s k z c.requires.size c.in_ok-length.length c.in_ok-length.ensures.ok.1 c.in-Some.total
    (sym c.times_behind.ensures ∙ c.in-Some.is) in
    let d = c.in_err-make_room.ensures.err in
    let u = whole_unwritten s k z T.writing vs (room_unwritten list vs c.in-Some.total sized.0 _ _ W laws _ _ _ d) in
    let has = text_at s _ _ many c.in_ok-length.ensures.ok.0 in
    let bytes = bytes_are s z _ _ _ _ many c.in_ok-length.ensures.ok.1 (sym c.times_behind.ensures ∙ c.in-Some.is) in
    let p = whole_room_halted s k z T.writing vs has (Some c.in-Some.total) bytes W known c.in-Some.total refl _ d in
    write_refused (list_write_of s k z T.writing) vs _ _ _ c.from_residual-in_err-make_room.ensures u p

pub returns-in_err-write_parts-clause-outcome : goal.returns-in_err-write_parts-clause-outcome
returns-in_err-write_parts-clause-outcome g c =
    let T = g.T.SchemaWrite in
    let s = g.Len.SeqLen.scheme in
    let k = g.row.COUNT in
    let z = c.args.size in
    let list = parts_write s k T.writing in
    let xs = g.C.ToItems.listed c.args.src.now in
    let vs = map T.model xs in
    let W = g.met.W.Writer.writer_laws in
    let laws = parts_write_laws s k g.C.ToItems.listed T.is_valid T.model T.writing g.T.SchemaWrite.write_laws in
    let many = length-map xs T.model ∙ sym c.count-n.ensures.count in
    let known = known_size z c.in_default.not-Unknown in
    let sized = list_size T.writing c.count-n.result vs many s k z c.requires.size c.in_ok-length.length c.in_ok-length.ensures.ok.1 c.in-Some.total
    (sym c.times_behind.ensures ∙ c.in-Some.is) in
    let has = text_at s _ _ many c.in_ok-length.ensures.ok.0 in
    let bytes = bytes_are s z _ _ _ _ many c.in_ok-length.ensures.ok.1 (sym c.times_behind.ensures ∙ c.in-Some.is) in
    let window = c.new-window.ensures in
    let same = ap g.W.Writer.state window.writer in
    let o = c.in_err-write_parts.ensures.outcome in
    let made = c.in_ok-make_room.ensures.ok in
    let a = c.new-window.result in
    let b = c.write_parts-2.new.writer in
    let u = whole_unwritten s k z T.writing vs (window_unwritten list vs c.in-Some.total sized _ _ (g.W.Writer.state a.writer.now)
    (g.W.Writer.state b.writer.now) a.writer.ghost_name b.writer.ghost_name a.left b.left _ made same window.left o.refused.0) in
    let p = window_stopped list vs c.in-Some.total sized _ _ (g.W.Writer.state a.writer.now) (g.W.Writer.state b.writer.now)
    a.writer.ghost_name b.writer.ghost_name a.left b.left _ made same window.left o.refused.0 {k = list_write_of s k z T.writing} o.refused.1
    (λ cannot inside added r. span_is s k z T.writing vs has _ bytes _ added _ known (inr ((λ q. cannot (has, q)), (inside, r)))) in
    record { ok = search rules; value = search rules; refused = search (rules, u, p) }

use Rattle.std.proofs.Common.{rules, ◌≡◌, refl, sym, ◌∙◌, length}
use Rattle.wincode_base.specs.WriteSequences.{encoding_unwritten}
use Rattle.wincode_base.proofs.InWindow.{short_halted, room_halted}
use Rattle.wincode_write.proofs.schema.encoded.write_encoded.Goals as goal
use Rattle.wincode_base.proofs.ReadAnswers.{if_passed}

pub returns-in_err-write-clause-refused : goal.returns-in_err-write-clause-refused
returns-in_err-write-clause-refused g c =
    let T = g.T.SchemaWrite in
    let v = T.model c.args.src.now in
    let encoded = (c.if-encode.ensures refl).0 in
    let size = T.write_laws.encoding_size v c.encode.new.dst encoded.1 in
    let u = encoding_unwritten T.writing v c.encode.new.dst encoded.1 size g.met.W.Writer.writer_laws _ _ _ c.in_err-write.ensures.err in
    if_passed _ _ _ c.from_residual.ensures u

pub returns-in_err-write-clause-item : goal.returns-in_err-write-clause-item
returns-in_err-write-clause-item g c =
    let T = g.T.SchemaWrite in
    let is = sym c.type_meta.ensures ∙ c.in-Static.is in
    if_passed _ _ _ c.from_residual.ensures (short_halted T.writing (T.model c.args.src.now) _ g.met.W.Writer.writer_laws _ is c.in_err-write.ensures.err)

pub returns-in_err-write-clause-windowed : goal.returns-in_err-write-clause-windowed
returns-in_err-write-clause-windowed g c =
    let T = g.T.SchemaWrite in
    let is = sym c.type_meta.ensures ∙ c.in-Static.is in
    let size : length c.encode.new.dst ≡ c.in-Static.size = search rules in
    let d = rw size at c.in_err-write.ensures.err in
    if_passed _ _ _ c.from_residual.ensures (room_halted T.writing (T.model c.args.src.now) g.met.W.Writer.writer_laws _ is d)

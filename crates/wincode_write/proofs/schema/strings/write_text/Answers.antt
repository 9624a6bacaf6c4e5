use Rattle.std.proofs.Common.{rules, ◌<◌, ◌^◌, length, refl}
use Rattle.wincode_base.proofs.Strings.{encoding_wrote, text_unwritten_first, text_unwritten_second, text_halted_first, text_halted_second}
use Rattle.wincode_base.proofs.WriteAnswers.{write_refused}
use Rattle.wincode_write.proofs.schema.strings.write_text.Goals as goal

pub returns-in_err-write : goal.returns-in_err-write
returns-in_err-write g c =
    let small : length c.args.text.now < 2 ^ 64 = search rules in
    let laws = g.met.W.Writer.writer_laws in
    let o = c.in_err-write.ensures in
    write_refused _ _ _ _ _ c.from_residual.ensures (text_unwritten_first laws 24 c.args.text.now _ small refl o.refused.0)
    (text_halted_first laws 24 c.args.text.now _ small o.refused.1)

pub returns-in_err-write-2 : goal.returns-in_err-write-2
returns-in_err-write-2 g c =
    let small : length c.args.text.now < 2 ^ 64 = search rules in
    let laws = g.met.W.Writer.writer_laws in
    let o = c.in_ok-write.ensures.ok in
    let d = c.in_err-write-2.ensures.err in
    let u = text_unwritten_second laws 24 c.args.text.now _ _ small refl c.as_bytes.ensures.value o d in
    let p = text_halted_second laws 24 c.args.text.now _ _ refl c.as_bytes.ensures.value o d in
    write_refused _ _ _ _ _ c.from_residual-in_err-write-2.ensures u p

pub returns : goal.returns
returns g c =
    let small : length c.args.text.now < 2 ^ 64 = search rules in
    record {
      ok = encoding_wrote g.met.W.Writer.writer_laws 24 c.args.text.now _ _ small refl c.as_bytes.ensures.value c.in_ok-write.ensures.ok
          c.in_ok-write-2.ensures.ok;
      value = tt;
      refused = tt;
    }

use Rattle.std.proofs.Common.{rules, ◌∙◌, ap, length}
use Rattle.std.proofs.lemmas.Str.{length-encode}
use Rattle.wincode_base.specs.Strings.{char_write}
use Rattle.wincode_base.specs.WriteSequences.{encoding_wrote, encoding_unwritten}
use Rattle.wincode_base.proofs.Strings.{char_halted}
use Rattle.wincode_base.proofs.WriteAnswers.{write_refused}
use Rattle.wincode_write.proofs.schema.strings.CharSchemaWrite.write.Goals as goal

pub returns-in_err-write : goal.returns-in_err-write
returns-in_err-write g c =
    let is = c.as_bytes.ensures.value ∙ c.encode_utf8-text.ensures.value in
    let size = ap length is ∙ length-encode c.args.src.now in
    let laws = g.met.W.Writer.writer_laws in
    let d = c.in_err-write.ensures.err in
    let u = encoding_unwritten char_write c.args.src.now _ is size laws _ _ _ d in
    let p = char_halted laws c.args.src.now _ is size _ d in write_refused char_write _ _ _ _ c.from_residual.ensures u p

pub returns : goal.returns
returns g c =
    let is = c.as_bytes.ensures.value ∙ c.encode_utf8-text.ensures.value in
    record {
      ok = encoding_wrote char_write c.args.src.now _ is (ap length is ∙ length-encode c.args.src.now) _ _ tt c.in_ok-write.ensures.ok;
      value =
          search rules;
      refused = tt;
    }

use Rattle.std.proofs.Common.{rules, ◌<◌, sym, ap, ◌∷◌, []}
use Rattle.wincode_base.specs.Lengths.{length_write, encoding_len}
use Rattle.wincode_base.specs.WriteSequences.{encoding_wrote, encoding_unwritten}
use Rattle.testkit_schemas.specs.ByteLengths.{byte_scheme, byte_encoding}
use Rattle.testkit_schemas.proofs.ByteLengths.{byte_halted}
use Rattle.testkit_schemas.proofs.byte_len.ByteLenSeqLen.write.Goals as goal

pub returns-in_err-write : goal.returns-in_err-write
returns-in_err-write g c =
    let n = c.args.len in
    let small : n < 256 = search rules in
    let is = byte_encoding n small in
    let size = sym (ap encoding_len is) in
    let laws = g.met.W.Writer.writer_laws in
    let d = c.in_err-write.ensures.err in
    let u = encoding_unwritten (length_write byte_scheme) n (n ∷ []) is size laws _ _ _ d in
    let p = byte_halted laws n is size _ d in search (rules, u, p)

pub returns : goal.returns
returns g c =
    let n = c.args.len in
    let small : n < 256 = search rules in
    let is = byte_encoding n small in
    record {
      ok = encoding_wrote (length_write byte_scheme) n (n ∷ []) is (sym (ap encoding_len is)) _ _ (n ∷ [], is) c.in_ok-write.ensures.ok;
      value = tt;
      refused = tt;
    }

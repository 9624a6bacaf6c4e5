use Rattle.wincode_base.specs.Lengths.{length_read, length_write}
use Rattle.wincode_recode.proofs.PassedOn.{not_written}
use Rattle.wincode_recode.proofs.passing.pass_length.Goals as goal

pub returns-in-Err-write-clause-err : goal.returns-in-Err-write-clause-err
returns-in-Err-write-clause-err g c =
    let s = g.Len.SeqLen.scheme in
    not_written (λ n. n) (length_read s c.args.prealloc) (λ n. n) (length_write s) _ _ _ _ c.in-Err-write.error c.unwritten.result c.unwritten.ensures (record {
      value = c.in-Ok.len;
      gives = c.in-Ok.ensures.ok;
      fits = λ known. let f = c.in-Ok.ensures.ok.found known in (f.encoding, f.is_read.1);
      refused = c.in-Err-write.ensures.refused.0;
    })

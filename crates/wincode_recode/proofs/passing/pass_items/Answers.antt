use Rattle.std.proofs.Common.{◌++◌, ◌∷◌, [], refl, length-append, arith}
use Rattle.wincode_recode.proofs.PassedOn.{passed_none, passed_more, err_passed}
use Rattle.wincode_recode.specs.Passing.{ItemNotPassed}
use Rattle.wincode_recode.proofs.passing.pass_items.Goals as goal

pub loop-i-init : goal.loop-i-init
loop-i-init g c =
    let R = g.T.SchemaRead in
    let W = g.T.SchemaWrite in
    ([], refl, passed_none g.met.W.Writer.writer_laws R.model R.reading W.model W.writing W.write_laws _ _)

pub loop-i-preserved : goal.loop-i-preserved
loop-i-preserved g c =
    let R = g.T.SchemaRead in
    let W = g.T.SchemaWrite in
    let so = c.loop-i.invariant in
    let one = c.in_ok-pass_value.ensures.ok in (
      so.0 ++ (one.0 ∷ []),
      omega (arith, length-append so.0 (one.0 ∷ []), so.1),
      passed_more g.met.W.Writer.writer_laws R.model R.reading W.model W.writing W.write_laws c.loop-i._i _ _ _ _ _ _ so.0 one.0 so.2 one.1,
    )

pub returns-in_err-pass_value-clause-err : goal.returns-in_err-pass_value-clause-err
returns-in_err-pass_value-clause-err g c =
    let R = g.T.SchemaRead in
    let W = g.T.SchemaWrite in
    let so = c.loop-i.invariant in
    err_passed (ItemNotPassed c.args.n R.model R.reading W.model W.writing (g.R.Reader.state c.args.reader.now) (g.R.Reader.state c.pass_value.new.reader)
    (g.W.Writer.state c.args.writer.now) (g.W.Writer.state c.pass_value.new.writer)) c.from_residual.result _ c.from_residual.ensures (record {
      count = c.loop-i._i;
      fewer = c.loop-i-test.true;
      values = so.0;
      mid = g.R.Reader.state c.loop-i.reader;
      between = g.W.Writer.state c.loop-i.writer;
      passed = so.2;
      refused = c.in_err-pass_value.ensures.err;
    })

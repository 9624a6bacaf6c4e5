use Rattle.std.proofs.Common.{rules}
use Rattle.std.proofs.lemmas.Result.{err_from_is_err_and}
use Rattle.wincode_io.proofs.Refusals.{refused_on, stream_refused_on}
use Rattle.wincode_io.proofs.stream_reader.StreamReader.fetch.Goals as goal

pub returns-in_err-more-clause-err : goal.returns-in_err-more-clause-err
returns-in_err-more-clause-err g c =
    let p = err_from_is_err_and c.from_residual.result c.from_residual.ensures.1 in
    rw (p.1, p.2) (refused_on c.args.n _ _ _ _ c.loop-self.invariant.stays c.loop-self.invariant.device c.in_err-more.ensures.err)

pub returns-in_err-more-clause-refused : goal.returns-in_err-more-clause-refused
returns-in_err-more-clause-refused g c =
    let p = err_from_is_err_and c.from_residual.result c.from_residual.ensures.1 in
    let short = c.in_err-more.ensures.refused c.args.n (search rules) in
    rw (p.1, p.2) (stream_refused_on g.S.Source.state c.args.n c.args.self.now c.loop-self.self c.more.new.self c.in_err-more.field-0.0
    c.loop-self.invariant.sound short)

use Rattle.std.proofs.Common.{rules}
use Rattle.wincode_io.proofs.stream_writer.StreamWriterWriter.finish.Goals as goal

pub returns-in_err-pass_on-clause-refused : goal.returns-in_err-pass_on-clause-refused
returns-in_err-pass_on-clause-refused g c = let r = c.in_err-pass_on.ensures.refused 0 in search (rules, r)

use Rattle.std.proofs.lemmas.Result.{err_from_is_err_and}
use Rattle.wincode_derive_text.specs.Splits.{reached, taken}
use Rattle.wincode_derive_text.proofs.Splitting.{refused_so}
use Rattle.wincode_derive_text.proofs.tokens.Lexer.step.Goals as goal

pub returns-in_err-take : goal.returns-in_err-take
returns-in_err-take c =
    let p = err_from_is_err_and c.from_residual.result c.from_residual.ensures.1 in
    rw (p.1, p.2) (refused_so c.args.self.now c.take.new.self c.take.new.self _ (taken (reached c.args.self.now) c.args.c) c.in_err-take.ensures)

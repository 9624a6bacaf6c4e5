use Rattle.wincode_derive_text.proofs.Splitting.{takes_both}
use Rattle.wincode_derive_text.proofs.tokens.Lexer.end_and_begin.Goals as goal

pub returns : goal.returns
returns c = takes_both c.args.self.now c.end.new.self c.begin.new.self c.args.kind c.args.c c.begin.result c.in_ok-end.ensures c.begin.ensures

use Rattle.wincode_describe.proofs.Fronts.{passed}
use Rattle.wincode_describe.proofs.tokens.Tokens.skip.Goals as goal

pub returns-then-self : goal.returns-then-self
returns-then-self c = passed _ c.args.self.now.next

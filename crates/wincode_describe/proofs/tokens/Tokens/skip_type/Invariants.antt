use Rattle.std.proofs.Common.{length}
use Rattle.wincode_describe.specs.Phrases.{left}
use Rattle.wincode_describe.proofs.tokens.Tokens.skip_type.Given as goal

abbrev pub decreases-loop-self : goal.decreases-loop-self
decreases-loop-self l = length (left l.self)

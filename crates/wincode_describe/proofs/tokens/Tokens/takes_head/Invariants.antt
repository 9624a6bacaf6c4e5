use Rattle.std.proofs.Common.{length}
use Rattle.wincode_describe.proofs.Heads.{OnHead}
use Rattle.wincode_describe.specs.Phrases.{left}
use Rattle.wincode_describe.specs.Sources.{heads}
use Rattle.wincode_describe.specs.declared.tokens.Over.TheVariants.{Between}
use Rattle.wincode_describe.proofs.tokens.Tokens.takes_head.Given as goal

abbrev pub invariant-loop-behind : goal.invariant-loop-behind
invariant-loop-behind l = OnHead (heads Between (left l.fn.self)) l.note (heads l.over (left l.self))

abbrev pub decreases-loop-behind : goal.decreases-loop-behind
decreases-loop-behind l = length (left l.self)

use Rattle.std.proofs.Common.{length}
use Rattle.wincode_describe.proofs.Heads.{OnDeclaration}
use Rattle.wincode_describe.specs.Phrases.{left, pieces}
use Rattle.wincode_describe.specs.Sources.{declaration_of}
use Rattle.wincode_describe.proofs.declared.declaration_in.Given as goal

abbrev pub invariant-loop-tokens : goal.invariant-loop-tokens
invariant-loop-tokens l = OnDeclaration (declaration_of l.name 0 (pieces l.source)) l.is_noted (declaration_of l.name l.depth (left l.tokens))

abbrev pub decreases-loop-tokens : goal.decreases-loop-tokens
decreases-loop-tokens l = length (left l.tokens)

use Rattle.std.proofs.Common.{[], ◌∷◌, ◌++◌, drop, length}
use Rattle.std.specs.Str.{chars}
use Rattle.wincode_derive_text.specs.Splits.{tokens_in}
use Rattle.wincode_derive_text.proofs.Splitting.{Left}
use Rattle.wincode_derive_text.proofs.tokens.tokens_of.Given as goal

abbrev pub invariant-loop-c : goal.invariant-loop-c
invariant-loop-c l = Left l.lexer (drop (length l.yielded) (chars l.source) ++ 10 ∷ []) (tokens_in (chars l.source))

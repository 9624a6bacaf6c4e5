-- Schemas whose values have one encoding each.
use Rattle.std.specs.Prelude.{◌≡◌, ℕ, List}
use Rattle.wincode_base.specs.Grammar.{ReadGrammar}

-- two encodings that read as one value are the same
pub record IsOneText {V : Type 0} (g : ReadGrammar V) : Type 0 where
  pub same : (a b : List ℕ) (v : V) → g.reads a v → g.reads b v → a ≡ b

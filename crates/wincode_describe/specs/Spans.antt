-- Where the parts of a value stand.
use Rattle.std.specs.Prelude.{◌≡◌, ℕ, ◌+◌, List, [], ◌∷◌, length}
use Rattle.wincode_describe.specs.Parts.{Part, part_bytes}
use Rattle.wincode_describe.specs.declared.spans.Span.{Span}

-- The first of the parts stands at this offset, each other where the one before it ends, and each has as many bytes as it says.
abbrev pub AreSpans : ℕ → List Part → List Span → Type 0
AreSpans at [] [] = Unit {0}
AreSpans at [] (s ∷ ss) = ⊥
AreSpans at (p ∷ ps) [] = ⊥
AreSpans at (p ∷ ps) (s ∷ ss) = (s.offset ≡ at) × (s.size ≡ length (part_bytes p)) × AreSpans (at + s.size) ps ss

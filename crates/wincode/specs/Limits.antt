-- Values that are written where their lengths are within the limits by which they are read.
use Rattle.wincode_base.specs.Grammar.{WriteGrammar}
use Rattle.wincode_base.specs.Outcomes.{SerializeRefused}
use Rattle.wincode.specs.declared.limits.LimitError.{LimitError}
use Rattle.wincode.specs.declared.limits.LimitError.TheVariants.{Write, PastLimit}

-- Why a value isn't written: it is within its limits, where it is valid, and writing is refused; or it isn't.
abbrev pub LimitRefused : {V : Type 0} → WriteGrammar V → Type 0 → V → LimitError → Type 0
LimitRefused g valid v (Write e) = (valid → g.fits v) × SerializeRefused g v e
LimitRefused g valid v PastLimit = g.fits v → ⊥

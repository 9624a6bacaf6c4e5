-- A source by value.
use Rattle.wincode_collect.specs.declared.array.Sourced.{Sourced}

-- the source itself
abbrev pub inner_of : {F : Type 0} → Sourced F → F
inner_of s = s.source

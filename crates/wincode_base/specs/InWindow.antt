-- What goes through one window of its size, where it has one.
use Rattle.std.specs.Prelude.{ℕ, ◌⊎◌}
use Rattle.wincode_io.specs.Readers.{ReaderState, Windowed}
use Rattle.wincode_base.specs.Grammar.{WriteGrammar, WriteRefusal, ReadGrammar, ReadRefusal}
use Rattle.wincode_base.specs.Outcomes.{NoWindow, PieceWriteRefused}
use Rattle.wincode_base.specs.declared.meta.TypeMeta.{TypeMeta}
use Rattle.wincode_base.specs.declared.meta.TypeMeta.TheVariants.{Static, Dynamic}

-- What is read through a window of n bytes was refused: the window was, and nothing is gone; or all n bytes are gone,
-- and what is in them was refused as `inside` says.
abbrev pub WindowReadRefused : ℕ → ReadRefusal → ReadRefusal
WindowReadRefused n inside old new e = NoWindow n old new e ⊎
    ((window : ReaderState) × (after : ReaderState) × Windowed n old new window × inside window after e)

-- What has one size is read through a window of it; the parts of what has none are refused as they say.
abbrev pub StaticReadRefused : TypeMeta → ReadRefusal → ReadRefusal
StaticReadRefused Dynamic inside = inside
StaticReadRefused (Static s z) inside = WindowReadRefused s inside

-- what is read through one window of its size, where it has one
abbrev pub windowed_read : {V : Type 0} → ReadGrammar V → ReadGrammar V
windowed_read g = record g { refused = StaticReadRefused g.meta g.refused }

-- What has one size is written through a window of it, and was refused: the window was; or what can't be written was,
-- in some room. What has none was refused as it says.
abbrev pub WindowWriteRefused : {V : Type 0} → TypeMeta → WriteGrammar V → WriteRefusal V
WindowWriteRefused Dynamic g = g.refused
WindowWriteRefused (Static s z) g = λ v room added e. PieceWriteRefused s room added e ⊎ ((g.can v → ⊥) × ((inside : ℕ) × g.refused v inside added e))

-- what is written through one window of its size, where it has one
abbrev pub windowed_write : {V : Type 0} → WriteGrammar V → WriteGrammar V
windowed_write g = record g { refused = WindowWriteRefused g.meta g }

-- What reading a value and writing it again answers.
use Rattle.std.specs.Prelude.{◌≡◌, ℕ, ◌-◌, List, [], ◌++◌, length}
use Rattle.wincode_io.specs.Readers.{ReaderState}
use Rattle.wincode_io.specs.Writers.{WriterState, in_memory, byte_limit}
use Rattle.wincode_base.specs.declared.error.Error.{Error}
use Rattle.wincode_base.specs.declared.error.WriteError.{WriteError}
use Rattle.wincode_base.specs.declared.error.Error.TheVariants.{WriteError as EitherWrite, ReadError as EitherRead}
use Rattle.wincode_base.specs.Grammar.{ReadGrammar, WriteGrammar}
use Rattle.wincode_base.specs.Outcomes.{Gives, SchemaReadRefused, WriteRefused}

-- Bytes were read as a value, the rest was left, and the encoding reads as that value.
pub record Rewritten {X V : Type 0} (model : X → V) (reads : List ℕ → V → Type 0) (old new : ReaderState) (text : List ℕ) : Type 0 where
  pub value : X
  pub front : List ℕ
  pub is_read : reads front (model value)
  pub joins : old.rest ≡ front ++ new.rest
  pub reads_back : reads text (model value)

-- a vector of these bytes, which takes so many more without memory
abbrev pub vector : List ℕ → ℕ → WriterState {S = List ℕ} (λ s a. s ++ a) (λ s. byte_limit - length s) Unit
vector bytes ready = in_memory bytes tt ready

-- writing v to an empty vector was refused
abbrev pub RewriteRefused : {V : Type 0} → WriteGrammar V → V → WriteError → Type 0
RewriteRefused g v e = (before : ℕ) × (bytes : List ℕ) × (after : ℕ) × WriteRefused g (vector [] before) (vector bytes after) v e

-- It was not rewritten: it was not read, as its schema says; or it was, and writing it was refused.
abbrev pub IsNotRewritten : {X V W : Type 0} → (X → V) → ReadGrammar V → (X → W) → WriteGrammar W → ReaderState → ReaderState → Error → Type 0
IsNotRewritten rs r ws w old new (EitherRead e) = SchemaReadRefused r old new e
IsNotRewritten {X} rs r ws w old new (EitherWrite e) = (value : X) × Gives r.reads old new (rs value) × RewriteRefused w (ws value) e

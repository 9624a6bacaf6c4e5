-- What is read of the same bytes in two ways.
use Rattle.std.specs.Prelude.{⊤, ◌≡◌, ◌⊎◌, ℕ, Bool, List}
use Rattle.wincode_io.specs.Readers.{ReaderState}
use Rattle.wincode_io.specs.declared.error.ReadError.TheVariants as reader
use Rattle.wincode_base.specs.Grammar.{ReadGrammar}
use Rattle.wincode_base.specs.Outcomes.{ReadDue, FrontReadRefused}
use Rattle.wincode_base.specs.declared.error.ReadError.{ReadError}
use Rattle.wincode_base.specs.declared.error.ReadError.TheVariants as reading

-- the same value was given, and the same bytes are left
pub record Agree {D V : Type 0} (model : D → V) (v w : D) (left right : List ℕ) : Type 0 where
  pub value : model v ≡ model w
  pub rest : left ≡ right

-- reading was refused where a front reads and no borrow was asked for: for memory, or by the reader's device
abbrev pub IsExcused : Bool → ReaderState → ReadError → Type 0
IsExcused takes_no_memory new e = ReadDue ⊤ 0 takes_no_memory new e

-- memory for a buffer was wanted
abbrev pub NoBuffer : ReadError → Type 0
NoBuffer e = e ≡ reading.Io reader.OutOfMemory

-- memory for a buffer was wanted; or reading was refused as the schema says
abbrev pub IsNotRead : {V : Type 0} → ReadGrammar V → ReaderState → ReadError → Type 0
IsNotRead g old e = NoBuffer e ⊎ FrontReadRefused g old e

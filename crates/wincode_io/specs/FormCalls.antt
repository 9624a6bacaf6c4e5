-- What the calls that read and write forms do.
use Rattle.std.specs.Prelude.{◌≡◌, ℕ, ◌*◌, ◌<◌, ◌≤◌, List, length, min, IsTrue, Option, Some}
use Rattle.wincode_io.specs.Forms.{values}
use Rattle.wincode_io.specs.Readers.{ReaderState, Takes, BytesReadRefused}
use Rattle.wincode_io.specs.Writers.{WriterState, IsUnmoved, WriterTells, WriteRefusedFor, byte_limit}
use Rattle.wincode_io.specs.declared.error.ReadError.{ReadError}
use Rattle.wincode_io.specs.declared.error.WriteError.{WriteError}

-- the first s bytes are gone from the reader, and their value stands in the destination
pub record TakesForm {X : Type 0} (s : ℕ) (value : List ℕ → X) (old new : ReaderState) (dst : Option X) : Type 0 where
  pub bytes : List ℕ
  pub takes : Takes s old new bytes
  pub is : dst ≡ Some (value bytes)

-- the first n forms are gone from the reader, and their values stand in the destination
pub record TakesForms {X : Type 0} (s : ℕ) (value : List ℕ → X) (n : ℕ) (old new : ReaderState) (dst : List X) : Type 0 where
  pub bytes : List ℕ
  pub takes : Takes (n * s) old new bytes
  pub is : dst ≡ values value s n bytes

-- fewer than s bytes are left, of at most `usize::MAX`
abbrev pub IsShortOfForm : ℕ → ReaderState → Type 0
IsShortOfForm s old = IsTrue old.is_known → length old.rest ≤ byte_limit → length old.rest < s

-- s bytes were refused by a reader, which has the bytes that it had; a size past `usize` is named as `usize::MAX`
abbrev pub FormReadRefused : ℕ → ReaderState → ReaderState → ReadError → Type 0
FormReadRefused s old new e = BytesReadRefused (IsShortOfForm s old) ⊥ (min s byte_limit) old new e

-- s bytes were refused by a writer, which holds what it held; a size past `usize` is named as `usize::MAX`
abbrev pub FormWriteRefused : {S K : Type 0} {put : S → List ℕ → S} {room : S → ℕ} → ℕ → WriterState put room K → WriterState put room K → WriteError → Type 0
FormWriteRefused {room = room} s old new e = IsUnmoved old new × WriterTells old new e
    × WriteRefusedFor (room old.content ≤ byte_limit → room old.content < s) (min s byte_limit) new e

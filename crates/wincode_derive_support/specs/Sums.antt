-- One of several cases, each with a tag of its own. The cases stand in a list; a value is the first (Ok) or one of the
-- others (Err).
use Rattle.std.specs.Prelude.{◌≡◌, ◌⊎◌, ℕ, ◌+◌, ◌^◌, ◌<◌, true, List, [], ◌++◌, Result, Ok, Err}
use Rattle.wincode_io.specs.Numbers.{le}
use Rattle.wincode_io.specs.Readers.{ReaderState}
use Rattle.wincode_io.specs.Writers.{WriterState}
use Rattle.wincode_base.specs.Grammar.{ReadGrammar, WriteGrammar, ReadRefusal, WriteRefusal}
use Rattle.wincode_base.specs.Leaves.{number_read}
use Rattle.wincode_base.specs.Outcomes.{Gives, SchemaReadRefused, IsOverflow, past_usize, WriteOutcome}
use Rattle.wincode_base.specs.Pairs.{pair_meta}
use Rattle.wincode_base.specs.Sequences.{Then}
use Rattle.wincode_base.specs.Tags.{TaggedWriteRefused}
use Rattle.wincode_base.specs.declared.error.ReadError.TheVariants as reading
use Rattle.wincode_base.specs.declared.error.WriteError.{WriteError}
use Rattle.wincode_base.specs.declared.meta.TypeMeta.TheVariants.{Static, Dynamic}

-- ---- the cases

-- no case that stands before that of the value has its tag, where n is that of the first
abbrev pub sides_own : {V W : Type 0} → ℕ → (W → ℕ) → (W → Type 0) → Result V W → Type 0
sides_own n tag own (Ok v) = Unit {0}
sides_own n tag own (Err w) = own w × (tag w ≡ n → ⊥)

-- ---- what stands behind a tag

-- what reads as a value behind the tag t
abbrev pub CaseReads : {V : Type 0} → (V → ℕ) → (V → Type 0) → (List ℕ → V → Type 0) → ℕ → List ℕ → V → Type 0
CaseReads tag own reads t b v = (tag v ≡ t) × own v × reads b v

abbrev pub case_read : {V : Type 0} → (V → ℕ) → (V → Type 0) → ReadGrammar V → (ℕ → ReadRefusal) → ℕ → ReadGrammar V
case_read tag own part refused t = record {
  reads = CaseReads tag own part.reads t;
  meta = Dynamic;
  prealloc = part.prealloc;
  borrow = part.borrow;
  takes_no_memory = part.takes_no_memory;
  refused = refused t;
}

-- Behind the tag t: the case with the tag n was refused, if that is t, and else one of the others.
abbrev pub CaseReadRefused : {V : Type 0} → ℕ → ReadGrammar V → (ℕ → ReadRefusal) → ℕ → ReadRefusal
CaseReadRefused n g others t old new e = ((t ≡ n) × SchemaReadRefused g old new e) ⊎ ((t ≡ n → ⊥) × others t old new e)

-- t is the tag of no case, and nothing behind it is gone
abbrev pub IsNameless : ℕ → ReadRefusal
IsNameless t old new e = (new ≡ old) × (e ≡ reading.InvalidTagEncoding t)

-- ---- a tag, and then what it names

-- the tag was refused, or, behind it, what it names
abbrev pub EnumReadRefused : {V : Type 0} → ℕ → (V → ℕ) → (V → Type 0) → ReadGrammar V → (ℕ → ReadRefusal) → ReadRefusal
EnumReadRefused k tag own part refused old new e = SchemaReadRefused (number_read k true) old new e
    ⊎ ((t : ℕ) × (mid : ReaderState) × Gives (number_read k true).reads old mid t × SchemaReadRefused (case_read tag own part refused t) mid new e)

-- A tag of k bytes, and then what it names.
abbrev pub enum_read : {V : Type 0} → ℕ → (V → ℕ) → (V → Type 0) → ReadGrammar V → (ℕ → ReadRefusal) → ReadGrammar V
enum_read k tag own part refused = record {
  reads = Then (number_read k true).reads (CaseReads tag own part.reads);
  meta = pair_meta (Static k true) part.meta;
  prealloc = part.prealloc;
  borrow = part.borrow;
  takes_no_memory = part.takes_no_memory;
  refused = EnumReadRefused k tag own part refused;
}

-- the value's tag is of no case before, and fits k bytes
abbrev pub IsTagged : {V : Type 0} → ℕ → (V → ℕ) → (V → Type 0) → V → Type 0
IsTagged k tag own v = own v × (tag v < 256 ^ k)

-- The value has no tag, and nothing was added; or its tag was refused, or, behind it, what it names.
abbrev pub EnumWriteRefused : {V : Type 0} → ℕ → (V → ℕ) → (V → Type 0) → WriteGrammar V → WriteRefusal V
EnumWriteRefused k tag own part v room added e = ((IsTagged k tag own v → ⊥) × (added ≡ []) × IsOverflow past_usize e)
    ⊎ TaggedWriteRefused k tag part v room added e

-- The same, written.
abbrev pub enum_write : {V : Type 0} → ℕ → (V → ℕ) → (V → Type 0) → WriteGrammar V → WriteGrammar V
enum_write k tag own part = record {
  writes = λ b v. IsTagged k tag own v × ((x : List ℕ) × part.writes x v × (b ≡ le k (tag v) ++ x));
  can = λ v. IsTagged k tag own v × part.can v;
  size = λ v. k + part.size v;
  fits = λ v. IsTagged k tag own v × part.fits v;
  meta = pair_meta (Static k true) part.meta;
  prealloc = part.prealloc;
  builtin = part.builtin;
  refused = EnumWriteRefused k tag own part;
}

-- ---- what a write of what stands behind the tag answers

-- said of the writer before and after, the value and the result
abbrev pub WriteAnswer : Type 0 → Type 1
WriteAnswer X = (S K : Type 0) (put : S → List ℕ → S) (room : S → ℕ) → WriterState put room K → WriterState put room K → X → Result (Unit {0}) WriteError
    → Type 0

-- that of one case
abbrev pub part_answer : {X V : Type 0} → (X → Type 0) → (X → V) → WriteGrammar V → WriteAnswer X
part_answer is_valid model g S K put room old new x r = WriteOutcome g old new (model x) (is_valid x) r

-- by the value's case
abbrev pub sides_answer : {X Y : Type 0} → WriteAnswer X → WriteAnswer Y → WriteAnswer (Result X Y)
sides_answer first other S K put room old new (Ok x) r = first S K put room old new x r
sides_answer first other S K put room old new (Err y) r = other S K put room old new y r

-- it is that of what stands behind the tag
abbrev pub IsAnswer : {X V : Type 0} → WriteAnswer X → (X → Type 0) → (X → V) → WriteGrammar V → Type 1
IsAnswer {X} answer is_valid model g = (S K : Type 0) (put : S → List ℕ → S) (room : S → ℕ) (old new : WriterState put room K) (x : X)
    (r : Result (Unit {0}) WriteError)
    → answer S K put room old new x r → WriteOutcome g old new (model x) (is_valid x) r

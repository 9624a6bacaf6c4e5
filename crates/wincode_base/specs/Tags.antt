-- The grammars of a tag and then what it names.
use Rattle.std.specs.Prelude.{◌≡◌, ◌⊎◌, ℕ, ◌+◌, ◌-◌, ◌^◌, ◌≤◌, ◌&&◌, true, false, List, [], ◌++◌, max, nat_eq, if◌then◌else◌, Option, Some, None}
use Rattle.std.specs.Prelude.{Result, Ok, Err}
use Rattle.wincode_io.specs.Readers.{ReaderState, IsShort, BytesReadRefused}
use Rattle.wincode_io.specs.Numbers.{le}
use Rattle.wincode_base.specs.Grammar.{ReadGrammar, WriteGrammar, WriteRefusal, ReadRefusal}
use Rattle.wincode_base.specs.Pairs.{pair_meta}
use Rattle.wincode_base.specs.Leaves.{number_read}
use Rattle.wincode_base.specs.Outcomes.{Gives, SchemaReadRefused, PieceWriteRefused, unsaid}
use Rattle.wincode_base.specs.declared.meta.TypeMeta.{TypeMeta}
use Rattle.wincode_base.specs.declared.meta.TypeMeta.TheVariants.{Static, Dynamic}
use Rattle.wincode_base.specs.declared.error.ReadError.TheVariants as reading

-- how many bytes a tag has
abbrev pub IsTagSize : ℕ → Type 0
IsTagSize k = (k ≡ 1) ⊎ ((k ≡ 2) ⊎ ((k ≡ 4) ⊎ (k ≡ 8)))

-- the greatest tag of k bytes
abbrev pub greatest_tag : ℕ → ℕ
greatest_tag k = 256 ^ k - 1

-- A tag of k bytes, and then what it names: `tag` says which tag a value has, `part` what stands behind it, and `refusal`
-- what is said of a refused read, of the tag and of what stands behind it.
abbrev pub tagged_read : {V : Type 0} → ℕ → (V → ℕ) → ReadRefusal → ReadGrammar V → ReadGrammar V
tagged_read k tag refusal part = record {
  reads = λ b v. (x : List ℕ) × part.reads x v × (b ≡ le k (tag v) ++ x);
  meta = pair_meta (Static k true) part.meta;
  prealloc = part.prealloc;
  borrow = part.borrow;
  takes_no_memory = part.takes_no_memory;
  refused = refusal;
}

-- the tag was refused, or, behind it, what it names
abbrev pub TaggedWriteRefused : {V : Type 0} → ℕ → (V → ℕ) → WriteGrammar V → WriteRefusal V
TaggedWriteRefused k tag part v room added e = PieceWriteRefused k room added e
    ⊎ ((y : List ℕ) × (added ≡ le k (tag v) ++ y) × part.refused v (room - k) y e)

-- The same, written.
abbrev pub tagged_write : {V : Type 0} → ℕ → (V → ℕ) → WriteGrammar V → WriteGrammar V
tagged_write k tag part = record {
  writes = λ b v. (x : List ℕ) × part.writes x v × (b ≡ le k (tag v) ++ x);
  can = part.can;
  size = λ v. k + part.size v;
  fits = part.fits;
  meta = pair_meta (Static k true) part.meta;
  prealloc = part.prealloc;
  builtin = part.builtin;
  refused = TaggedWriteRefused k tag part;
}

-- the same, of which each value counts n against a limit
abbrev pub counted_read : {V : Type 0} → ℕ → ReadGrammar V → ReadGrammar V
counted_read n g = record g { prealloc = n }

-- the same, written
abbrev pub counted_write : {V : Type 0} → ℕ → WriteGrammar V → WriteGrammar V
counted_write n g = record g { prealloc = n }

-- A tag of k bytes was refused: too few bytes are left, and they stay; or the tag, which was read, names nothing.
abbrev pub TagReadRefused : ℕ → (ℕ → Type 0) → ReadRefusal
TagReadRefused k nameless old new (reading.Io e) = BytesReadRefused (IsShort k old) ⊥ k old new e
TagReadRefused k nameless old new (reading.InvalidTagEncoding t) = nameless t × Gives (number_read k true).reads old new t
TagReadRefused k nameless old new _ = ⊥

-- behind the tag t of k bytes, which was read, what it names was refused, as its grammar says
abbrev pub PartReadRefused : {V : Type 0} → ℕ → ℕ → ReadGrammar V → ReadRefusal
PartReadRefused k t g old new e = (mid : ReaderState) × Gives (number_read k true).reads old mid t × SchemaReadRefused g mid new e

-- ---- options

-- the tag of an option
abbrev pub option_tag : {V : Type 0} → Option V → ℕ
option_tag None = 0
option_tag (Some v) = 1

-- behind the tag: nothing, or a value
abbrev pub IsOptionPart : {V : Type 0} → (List ℕ → V → Type 0) → List ℕ → Option V → Type 0
IsOptionPart reads b None = b ≡ []
IsOptionPart reads b (Some v) = reads b v

-- an option without its tag
abbrev pub option_part_read : {V : Type 0} → ReadGrammar V → ReadGrammar (Option V)
option_part_read g = record {
  reads = IsOptionPart g.reads;
  meta = Dynamic;
  prealloc = g.prealloc;
  borrow = g.borrow;
  takes_no_memory = g.takes_no_memory;
  refused = unsaid;
}

-- an option was refused: its tag; or, behind the tag 1, its value
abbrev pub OptionReadRefused : {V : Type 0} → ℕ → ReadGrammar V → ReadRefusal
OptionReadRefused k g old new e = TagReadRefused k (λ t. 2 ≤ t) old new e ⊎ PartReadRefused k 1 g old new e

-- None is the tag 0, in k bytes, and Some the tag 1 and then its value.
abbrev pub option_read : {V : Type 0} → ℕ → ReadGrammar V → ReadGrammar (Option V)
option_read k g = tagged_read k option_tag (OptionReadRefused k g) (option_part_read g)

-- what holds of the value, if there is one
abbrev pub IfPart : {V : Type 0} → (V → Type 0) → Option V → Type 0
IfPart P None = Unit {0}
IfPart P (Some v) = P v

-- the size of the value, if there is one
abbrev pub option_size : {V : Type 0} → (V → ℕ) → Option V → ℕ
option_size size None = 0
option_size size (Some v) = size v

-- of None nothing is refused behind the tag, and of Some its value
abbrev pub OptionWriteRefused : {V : Type 0} → WriteRefusal V → WriteRefusal (Option V)
OptionWriteRefused refused None room added e = ⊥
OptionWriteRefused refused (Some v) room added e = refused v room added e

-- an option without its tag, written
abbrev pub option_part_write : {V : Type 0} → WriteGrammar V → WriteGrammar (Option V)
option_part_write g = record {
  writes = IsOptionPart g.writes;
  can = IfPart g.can;
  size = option_size g.size;
  fits = IfPart g.fits;
  meta = Dynamic;
  prealloc = g.prealloc;
  builtin = g.builtin;
  refused = OptionWriteRefused g.refused;
}

-- The tag, and then the value, if there is one.
abbrev pub option_write : {V : Type 0} → ℕ → WriteGrammar V → WriteGrammar (Option V)
option_write k g = tagged_write k option_tag (option_part_write g)

-- ---- results

-- the tag of a side, by those of what may stand there
abbrev pub sides_tag : {V W : Type 0} → (V → ℕ) → (W → ℕ) → Result V W → ℕ
sides_tag tag other (Ok v) = tag v
sides_tag tag other (Err w) = other w

-- the tag of a result
abbrev pub result_tag : {V W : Type 0} → Result V W → ℕ
result_tag = sides_tag (λ v. 0) (λ w. 1)

-- the size that both sides have, if they have one
abbrev pub sides_meta : TypeMeta → TypeMeta → TypeMeta
sides_meta Dynamic n = Dynamic
sides_meta (Static a x) Dynamic = Dynamic
sides_meta (Static a x) (Static b y) = if nat_eq a b then Static a false else Dynamic

-- behind the tag: a value of the side that it names
abbrev pub IsSidePart : {V W : Type 0} → (List ℕ → V → Type 0) → (List ℕ → W → Type 0) → List ℕ → Result V W → Type 0
IsSidePart reads others b (Ok v) = reads b v
IsSidePart reads others b (Err w) = others b w

-- a result without its tag
abbrev pub sides_read : {V W : Type 0} → ReadGrammar V → ReadGrammar W → ReadGrammar (Result V W)
sides_read g h = record {
  reads = IsSidePart g.reads h.reads;
  meta = sides_meta g.meta h.meta;
  prealloc = max g.prealloc h.prealloc;
  borrow = max g.borrow h.borrow;
  takes_no_memory = g.takes_no_memory && h.takes_no_memory;
  refused = unsaid;
}

-- a result was refused: its tag; or, behind it, the side that it names
abbrev pub ResultReadRefused : {V W : Type 0} → ℕ → ReadGrammar V → ReadGrammar W → ReadRefusal
ResultReadRefused k g h old new e = TagReadRefused k (λ t. 2 ≤ t) old new e
    ⊎ (PartReadRefused k 0 g old new e ⊎ PartReadRefused k 1 h old new e)

-- Ok is the tag 0, in k bytes, and then its value, and Err the tag 1 and then its error.
abbrev pub result_read : {V W : Type 0} → ℕ → ReadGrammar V → ReadGrammar W → ReadGrammar (Result V W)
result_read k g h = tagged_read k result_tag (ResultReadRefused k g h) (sides_read g h)

-- what holds of the side that is there
abbrev pub IfSide : {V W : Type 0} → (V → Type 0) → (W → Type 0) → Result V W → Type 0
IfSide P Q (Ok v) = P v
IfSide P Q (Err w) = Q w

-- the size of the side that is there
abbrev pub sides_size : {V W : Type 0} → (V → ℕ) → (W → ℕ) → Result V W → ℕ
sides_size size other (Ok v) = size v
sides_size size other (Err w) = other w

-- the side that stands there was refused
abbrev pub SidesWriteRefused : {V W : Type 0} → WriteRefusal V → WriteRefusal W → WriteRefusal (Result V W)
SidesWriteRefused refused others (Ok v) room added e = refused v room added e
SidesWriteRefused refused others (Err w) room added e = others w room added e

-- a result without its tag, written
abbrev pub sides_write : {V W : Type 0} → WriteGrammar V → WriteGrammar W → WriteGrammar (Result V W)
sides_write g h = record {
  writes = IsSidePart g.writes h.writes;
  can = IfSide g.can h.can;
  size = sides_size g.size h.size;
  fits = IfSide g.fits h.fits;
  meta = sides_meta g.meta h.meta;
  prealloc = max g.prealloc h.prealloc;
  builtin = g.builtin && h.builtin;
  refused = SidesWriteRefused g.refused h.refused;
}

-- The tag, and then the side that it names.
abbrev pub result_write : {V W : Type 0} → ℕ → WriteGrammar V → WriteGrammar W → WriteGrammar (Result V W)
result_write k g h = tagged_write k result_tag (sides_write g h)

-- The grammars of characters, of texts and of references.
use Rattle.std.specs.Prelude.{◌≡◌, ◌⊎◌, ℕ, ◌+◌, ◌-◌, ◌<◌, ◌≤◌, ◌^◌, cond, true, false, Bool, List, [], ◌++◌, length, take, IsUtf8, encode_utf8}
use Rattle.std.specs.Prelude.{nat_lt, IsTrue, ⊤, zero, suc}
use Rattle.std.specs.Char.{IsScalar, len_utf8}
use Rattle.wincode_io.specs.Readers.{ReaderState, Stays, StaysSound, Takes, IsShort, IsPeeked, ReadRefusedFor, BytesReadRefused, nothing}
use Rattle.wincode_io.specs.Numbers.{le}
use Rattle.wincode_io.specs.Texts.{IsUtf8Fault}
use Rattle.wincode_base.specs.Grammar.{ReadGrammar, WriteGrammar, WriteRefusal}
use Rattle.wincode_base.specs.Lengths.{IsLength, bincode, LengthReadRefused, preallocation_limit}
use Rattle.wincode_base.specs.Outcomes.{Gives, ReadTells, PieceWriteRefused}
use Rattle.wincode_base.specs.declared.meta.TypeMeta.{TypeMeta}
use Rattle.wincode_base.specs.declared.meta.TypeMeta.TheVariants.{Static, Dynamic}
use Rattle.wincode_base.specs.declared.error.ReadError.{ReadError}
use Rattle.wincode_base.specs.declared.error.ReadError.TheVariants as reading

-- how many bytes a character has whose first byte this is, or 0 where it is the first byte of none
abbrev pub announced : ℕ → ℕ
announced b = cond (nat_lt b 128) 1 (cond (nat_lt b 194) 0 (cond (nat_lt b 224) 2 (cond (nat_lt b 240) 3 (cond (nat_lt b 245) 4 0))))

-- Why a character is refused: no byte is left; too few are left of those that the first announces; it announces none;
-- or they are not UTF-8, with the error of exactly these bytes.
abbrev pub CharReadRefusedFor : ReaderState → ReaderState → ReadError → Type 0
CharReadRefusedFor old new (reading.Io e) = ReadRefusedFor (IsShort 1 old) ⊥ 1 new e
    ⊎ ((lead : ℕ) × IsPeeked old lead × ReadRefusedFor (IsShort (announced lead) old) ⊥ (announced lead) new e)
CharReadRefusedFor old new (reading.InvalidCharLead lead) = IsPeeked old lead × (announced lead ≡ 0)
CharReadRefusedFor old new (reading.InvalidUtf8Encoding e) = (lead : ℕ) × IsPeeked old lead
    × (IsTrue old.is_known → (announced lead ≤ length old.rest) × IsUtf8Fault (take (announced lead) old.rest) e)
CharReadRefusedFor old new _ = ⊥

-- a character was refused, and the reader has the bytes that it had
abbrev pub CharReadRefused : ReaderState → ReaderState → ReadError → Type 0
CharReadRefused old new e = Stays old new × ReadTells old new e × CharReadRefusedFor old new e

-- A character is its bytes in UTF-8, the fewest that spell it.
abbrev pub char_read : ReadGrammar ℕ
char_read = record {
  reads = λ b c. IsScalar c × (b ≡ encode_utf8 c);
  meta = Dynamic;
  prealloc = 4;
  borrow = nothing;
  takes_no_memory = true;
  refused = CharReadRefused;
}

-- the same, written
abbrev pub char_write : WriteGrammar ℕ
char_write = record {
  writes = λ b c. b ≡ encode_utf8 c;
  can = λ c. Unit {0};
  size = λ c. len_utf8 c;
  fits = λ c. Unit {0};
  meta = Dynamic;
  prealloc = 4;
  builtin = true;
  refused = λ c. PieceWriteRefused (len_utf8 c);
}

-- Why the n bytes of a text are refused: too few are left, or the borrow is not lent; there is no memory for those that
-- are left; or, once they are gone, they are not UTF-8, with the error of exactly these bytes.
abbrev pub StrBytesReadRefused : Type 0 → Type 0 → ℕ → ReaderState → ReaderState → ReadError → Type 0
StrBytesReadRefused unlent owned n old new (reading.Io e) = BytesReadRefused (IsShort n old) unlent n old new e
StrBytesReadRefused unlent owned n old new reading.OutOfMemory = owned × StaysSound old new × (IsTrue old.is_known → n ≤ length old.rest)
StrBytesReadRefused unlent owned n old new (reading.InvalidUtf8Encoding e) = (bytes : List ℕ) × Takes n old new bytes × IsUtf8Fault bytes e
StrBytesReadRefused unlent owned n old new _ = ⊥

-- A text was refused: its length; or, once its length is gone, its bytes. `unlent` says of a reader whether the borrow may
-- be refused, and `owned` whether the text takes memory.
abbrev pub StrReadRefused : (ReaderState → Type 0) → Type 0 → ReaderState → ReaderState → ReadError → Type 0
StrReadRefused unlent owned old new e = LengthReadRefused preallocation_limit 1 old new e
    ⊎ ((n : ℕ) × (mid : ReaderState) × Gives (IsLength (bincode preallocation_limit) 1) old mid n × StrBytesReadRefused (unlent mid) owned n mid new e)

-- whether a borrow that is asked for may be refused by a reader, which lends too little
abbrev pub LendsTooLittle : ℕ → ReaderState → Type 0
LendsTooLittle zero s = ⊥
LendsTooLittle (suc n) s = s.lends < suc n

-- whether a text takes memory
abbrev pub TakesMemory : Bool → Type 0
TakesMemory true = ⊥
TakesMemory false = ⊤

-- A text is how many bytes it has in UTF-8, as eight bytes, and then those bytes, which are its value.
abbrev pub str_read : ℕ → ℕ → Bool → ReadGrammar (List ℕ)
str_read prealloc borrow takes_no_memory = record {
  reads = λ b v. (length v ≤ preallocation_limit) × IsUtf8 v × (b ≡ le 8 (length v) ++ v);
  meta = Dynamic;
  prealloc = prealloc;
  borrow = borrow;
  takes_no_memory = takes_no_memory;
  refused = StrReadRefused (LendsTooLittle borrow) (TakesMemory takes_no_memory);
}

-- the length of a text was refused, or, behind it, its bytes, each in one piece
abbrev pub StrWriteRefused : WriteRefusal (List ℕ)
StrWriteRefused v room added e = PieceWriteRefused 8 room added e
    ⊎ ((added ≡ le 8 (length v)) × PieceWriteRefused (length v) (room - 8) [] e)

-- The same, written: at any length, and within the limits of reading up to 4194304 bytes.
abbrev pub str_write : ℕ → WriteGrammar (List ℕ)
str_write prealloc = record {
  writes = λ b v. (length v < 2 ^ 64) × (b ≡ le 8 (length v) ++ v);
  can = λ v. length v < 2 ^ 64;
  size = λ v. 8 + length v;
  fits = λ v. length v ≤ preallocation_limit;
  meta = Dynamic;
  prealloc = prealloc;
  builtin = true;
  refused = StrWriteRefused;
}

-- the n bytes of a text, without its length
abbrev pub IsStrBytes : ℕ → List ℕ → List ℕ → Type 0
IsStrBytes n b v = (length v ≡ n) × IsUtf8 v × (b ≡ v)

abbrev pub body_read : ℕ → ℕ → Bool → ReadGrammar (List ℕ)
body_read n borrow takes_no_memory = record {
  reads = IsStrBytes n;
  meta = Dynamic;
  prealloc = 1;
  borrow = borrow;
  takes_no_memory = takes_no_memory;
  refused = λ old. StrBytesReadRefused (LendsTooLittle borrow old) (TakesMemory takes_no_memory) n old;
}

-- the size of what is written for a reference, which is not a list of bytes
abbrev pub reference_meta : TypeMeta → TypeMeta
reference_meta (Static size zero_copy) = Static size false
reference_meta Dynamic = Dynamic

-- what is written for a reference is what is written for its value
abbrev pub reference_write : {V : Type 0} → WriteGrammar V → WriteGrammar V
reference_write g = record g { meta = reference_meta g.meta }

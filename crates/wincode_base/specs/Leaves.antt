-- The grammars of leaves.
use Rattle.std.specs.Prelude.{◌≡◌, ℕ, ◌<◌, ◌^◌, true, false, Bool, [], ◌∷◌}
use Rattle.std.specs.Prelude.{ℤ, FitsSigned}
use Rattle.std.specs.Int.{Width, byte_len, cast_unsigned}
use Rattle.wincode_io.specs.Numbers.{le}
use Rattle.wincode_io.specs.Readers.{Takes, IsShort, BytesReadRefused, nothing}
use Rattle.wincode_base.specs.Grammar.{ReadGrammar, WriteGrammar, never_refused, ReadRefusal}
use Rattle.wincode_base.specs.Outcomes.{PieceWriteRefused, PieceReadRefused, never}
use Rattle.wincode_base.specs.declared.error.ReadError.TheVariants as reading
use Rattle.wincode_base.specs.declared.meta.TypeMeta.TheVariants.{Static}

-- An unsigned number of k bytes. `any` says that it is announced as a number for which every list of k bytes stands.
abbrev pub number_read : ℕ → Bool → ReadGrammar ℕ
number_read k any = record {
  reads = λ b v. (v < 256 ^ k) × (b ≡ le k v);
  meta = Static k any;
  prealloc = k;
  borrow = nothing;
  takes_no_memory = true;
  refused = PieceReadRefused k;
}

-- the same, written
abbrev pub number_write : ℕ → Bool → WriteGrammar ℕ
number_write k any = record {
  writes = λ b v. b ≡ le k v;
  can = λ v. Unit {0};
  size = λ v. k;
  fits = λ v. Unit {0};
  meta = Static k any;
  prealloc = k;
  builtin = true;
  refused = λ v. PieceWriteRefused k;
}

-- A signed number in two's complement, in as many bytes as the width has.
abbrev pub signed_read : Width → Bool → ReadGrammar ℤ
signed_read w any = record {
  reads = λ b z. FitsSigned w z × (b ≡ le (byte_len w) (cast_unsigned w z));
  meta = Static (byte_len w) any;
  prealloc = byte_len w;
  borrow = nothing;
  takes_no_memory = true;
  refused = PieceReadRefused (byte_len w);
}

-- the same, written
abbrev pub signed_write : Width → Bool → WriteGrammar ℤ
signed_write w any = record {
  writes = λ b z. b ≡ le (byte_len w) (cast_unsigned w z);
  can = λ z. Unit {0};
  size = λ z. byte_len w;
  fits = λ z. Unit {0};
  meta = Static (byte_len w) any;
  prealloc = byte_len w;
  builtin = true;
  refused = λ z. PieceWriteRefused (byte_len w);
}

-- the byte of a boolean
abbrev pub bool_byte : Bool → ℕ
bool_byte false = 0
bool_byte true = 1

-- A boolean was refused: no byte is left; or its byte, which is then gone, is neither 0 nor 1.
abbrev pub BoolReadRefused : ReadRefusal
BoolReadRefused old new (reading.Io e) = BytesReadRefused (IsShort 1 old) ⊥ 1 old new e
BoolReadRefused old new (reading.InvalidBoolEncoding b) = (1 < b) × Takes 1 old new (b ∷ [])
BoolReadRefused old new _ = ⊥

-- A boolean is one byte, 0 or 1.
abbrev pub bool_read : ReadGrammar Bool
bool_read = record {
  reads = λ b v. b ≡ bool_byte v ∷ [];
  meta = Static 1 false;
  prealloc = 1;
  borrow = nothing;
  takes_no_memory = true;
  refused = BoolReadRefused;
}

-- the same, written
abbrev pub bool_write : WriteGrammar Bool
bool_write = record {
  writes = λ b v. b ≡ bool_byte v ∷ [];
  can = λ v. Unit {0};
  size = λ v. 1;
  fits = λ v. Unit {0};
  meta = Static 1 false;
  prealloc = 1;
  builtin = true;
  refused = λ v. PieceWriteRefused 1;
}

-- a value without bytes
abbrev pub unit_read : ReadGrammar Unit
unit_read = record {
  reads = λ b v. b ≡ [];
  meta = Static 0 true;
  prealloc = 1;
  borrow = nothing;
  takes_no_memory = true;
  refused = never;
}

-- the same, written
abbrev pub unit_write : WriteGrammar Unit
unit_write = record {
  writes = λ b v. b ≡ [];
  can = λ v. Unit {0};
  size = λ v. 0;
  fits = λ v. Unit {0};
  meta = Static 0 true;
  prealloc = 1;
  builtin = true;
  refused = never_refused;
}

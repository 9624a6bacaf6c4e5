-- Short numbers, as values and as lengths.
use Rattle.std.specs.Prelude.{◌≡◌, ℕ, ◌<◌, ◌^◌, true, length, Some, None, nat_lt, if◌then◌else◌}
use Rattle.wincode_io.specs.Readers.{StaysSound, BytesReadRefused, nothing}
use Rattle.wincode_io.specs.ShortNumbers.{short_encoding}
use Rattle.wincode_base.specs.Grammar.{ReadGrammar, WriteGrammar, ReadRefusal}
use Rattle.wincode_base.specs.Lengths.{Scheme}
use Rattle.wincode_base.specs.Outcomes.{PieceWriteRefused, past_u16}
use Rattle.wincode_base.specs.declared.meta.TypeMeta.TheVariants.{Dynamic}
use Rattle.wincode_base.specs.declared.error.ReadError.TheVariants as reading

-- A short number was refused, and the reader has the bytes that it had: its memory or its device refused it the first
-- three; or no short number stands in front.
abbrev pub ShortReadRefused : ReadRefusal
ShortReadRefused old new (reading.Io e) = BytesReadRefused ⊥ ⊥ 3 old new e
ShortReadRefused old new (reading.LengthEncodingOverflow t) = StaysSound old new × (t.now ≡ past_u16)
ShortReadRefused old new _ = ⊥

-- Reading a short number as a value.
abbrev pub short_read : ReadGrammar ℕ
short_read = record {
  reads = λ b n. (n < 2 ^ 16) × (b ≡ short_encoding n);
  meta = Dynamic;
  prealloc = 2;
  borrow = nothing;
  takes_no_memory = true;
  refused = ShortReadRefused;
}

-- Writing a short number as a value.
abbrev pub short_write : WriteGrammar ℕ
short_write = record {
  writes = λ b n. b ≡ short_encoding n;
  can = λ n. Unit {0};
  size = λ n. length (short_encoding n);
  fits = λ n. Unit {0};
  meta = Dynamic;
  prealloc = 2;
  builtin = true;
  refused = λ n. PieceWriteRefused (length (short_encoding n));
}

-- a length below 2 to the 16, read whatever its items count
abbrev pub short_scheme : Scheme
short_scheme = record {
  encoding = λ n. if nat_lt n (2 ^ 16) then Some (short_encoding n) else None;
  admits = λ n p. n < 2 ^ 16;
  builtin = true;
  overflow = past_u16;
  refused = λ p. ShortReadRefused;
}

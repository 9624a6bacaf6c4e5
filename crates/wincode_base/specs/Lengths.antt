-- How the length of a list is written and read.
use Rattle.std.specs.Prelude.{◌≡◌, ◌⊎◌, ℕ, ◌<◌, ◌≤◌, ◌^◌, ◌*◌, true, Bool, List, [], ◌++◌, length, min, Option, Some, None, nat_lt, if◌then◌else◌, IsTrue}
use Rattle.wincode_io.specs.Numbers.{le}
use Rattle.wincode_io.specs.Readers.{TakesNumber, IsShort, BytesReadRefused, nothing}
use Rattle.wincode_io.specs.Writers.{byte_limit}
use Rattle.wincode_base.specs.Grammar.{WriteGrammar, WriteRefusal, ReadGrammar, ReadRefusal}
use Rattle.wincode_base.specs.Outcomes.{IsValueError, IsOverflow, past_usize, PieceWriteRefused}
use Rattle.wincode_base.specs.declared.error.WriteError.{WriteError}
use Rattle.wincode_base.specs.declared.error.ReadError.TheVariants as reading
use Rattle.wincode_base.specs.declared.meta.TypeMeta.TheVariants.{Dynamic}

-- what the items of a list may count together where no other limit is chosen: 4 MiB
abbrev pub preallocation_limit : ℕ
preallocation_limit = 4194304

-- The encoding of a length, if it has one, and which lengths are read where an item counts so much. `builtin` says that a
-- length without an encoding is refused as a length that overflows, and `refused` what is said of each refused read beyond
-- that it is due, where an item counts so much. `overflow` is the text of that refusal, of a scheme of this crate.
pub record Scheme : Type 1 where
  pub encoding : ℕ → Option (List ℕ)
  pub admits : ℕ → ℕ → Type 0
  pub builtin : Bool
  pub overflow : List ℕ
  pub refused : ℕ → ReadRefusal

-- the length n can be written
abbrev pub HasEncoding : Scheme → ℕ → Type 0
HasEncoding s n = (b : List ℕ) × (s.encoding n ≡ Some b)

-- how many bytes an encoding has, or 0 where there is none
abbrev pub encoding_len : Option (List ℕ) → ℕ
encoding_len None = 0
encoding_len (Some b) = length b

-- b reads as the length n of items that count p
abbrev pub IsLength : Scheme → ℕ → List ℕ → ℕ → Type 0
IsLength s p b n = s.admits n p × (s.encoding n ≡ Some b)

-- the length n was refused, which has no encoding; a scheme of this crate says so by its text
abbrev pub LengthSizeRefused : Scheme → ℕ → WriteError → Type 0
LengthSizeRefused s n e = (HasEncoding s n → ⊥) × IsValueError s.builtin e × (IsTrue s.builtin → IsOverflow s.overflow e)

-- A length was refused: it has an encoding, which is written in one piece, and that was refused; or it has none, and nothing
-- was added.
abbrev pub LengthWriteRefused : Scheme → WriteRefusal ℕ
LengthWriteRefused s n room added e = (HasEncoding s n × PieceWriteRefused (encoding_len (s.encoding n)) room added e)
    ⊎ ((added ≡ []) × LengthSizeRefused s n e)

-- a length alone, of items that count p
abbrev pub length_read : Scheme → ℕ → ReadGrammar ℕ
length_read s p = record { reads = IsLength s p; meta = Dynamic; prealloc = 1; borrow = nothing; takes_no_memory = true; refused = s.refused p }

-- a length alone, as something to write
abbrev pub length_write : Scheme → WriteGrammar ℕ
length_write s = record {
  writes = λ b n. s.encoding n ≡ Some b;
  can = λ n. HasEncoding s n;
  size = λ n. encoding_len (s.encoding n);
  fits = λ n. HasEncoding s n;
  meta = Dynamic;
  prealloc = 1;
  builtin = s.builtin;
  refused = LengthWriteRefused s;
}

-- An admitted length has an encoding, and of two lengths' encodings neither begins the other.
pub record SchemeLaws (s : Scheme) : Type 0 where
  pub admitted : (n p : ℕ) → s.admits n p → HasEncoding s n
  pub one_length : (a b x y : List ℕ) (m n : ℕ) → s.encoding m ≡ Some a → s.encoding n ≡ Some b → a ++ x ≡ b ++ y → (a ≡ b) × (m ≡ n)

-- A length of eight bytes was refused: there are too few, and they stay; or, once it was read, for the limit.
abbrev pub LengthReadRefused : ℕ → ℕ → ReadRefusal
LengthReadRefused limit p old new (reading.Io e) = BytesReadRefused (IsShort 8 old) ⊥ 8 old new e
LengthReadRefused limit p old new (reading.PreallocationSizeLimit needed most) =
    (n : ℕ) × (TakesNumber 8 old new n × (limit < n * p) × (needed ≡ min (n * p) byte_limit) × (most ≡ limit))
LengthReadRefused limit p old new _ = ⊥

-- eight bytes, read where the items count no more than the limit
abbrev pub bincode : ℕ → Scheme
bincode limit = record {
  encoding = λ n. if nat_lt n (2 ^ 64) then Some (le 8 n) else None;
  admits = λ n p. (n < 2 ^ 64) × (n * p ≤ limit);
  builtin = true;
  overflow = past_usize;
  refused = LengthReadRefused limit;
}

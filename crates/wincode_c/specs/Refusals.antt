-- The numbers of refusals, and their texts.
use Rattle.std.specs.Prelude.{ℕ, length, codes, cond, nat_eq, Option, Some, None}
use Rattle.std.specs.Str.{valid_up_to, error_len}
use Rattle.wincode_io.specs.declared.error.ReadError.TheVariants as reader
use Rattle.wincode_base.specs.declared.error.ReadError.{ReadError}
use Rattle.wincode_base.specs.declared.error.ReadError.TheVariants as reading

-- The number of a refusal, by its kind: those of a reader, and then those of schemas. Two schemes of length have a greatest
-- number, which the refusal names: one name is as long as `u16::MAX`, and the other isn't.
abbrev pub number_of : ReadError → ℕ
number_of (reading.Io (reader.ReadSizeLimit n)) = 1
number_of (reading.Io reader.UnsupportedZeroCopy) = 2
number_of (reading.Io (reader.Io e)) = 3
number_of (reading.Io reader.OutOfMemory) = 4
number_of (reading.InvalidUtf8Encoding e) = 5
number_of reading.PointerSizedReadError = 6
number_of (reading.PreallocationSizeLimit needed limit) = 7
number_of (reading.InvalidTagEncoding tag) = 8
number_of (reading.InvalidBoolEncoding byte) = 9
number_of (reading.LengthEncodingOverflow most) = cond (nat_eq (length most.now) (length (codes "u16::MAX"))) 16 10
number_of (reading.InvalidCharLead byte) = 11
number_of (reading.Custom text) = 12
number_of reading.UnalignedPointerRead = 13
number_of reading.OutOfMemory = 14

-- how many bytes of a text are no character, or 0 where it ends within one
abbrev pub bad_bytes : Option ℕ → ℕ
bad_bytes None = 0
bad_bytes (Some n) = n

-- The first number that a refusal's text has, or 0.
abbrev pub first_of : ReadError → ℕ
first_of (reading.Io (reader.ReadSizeLimit n)) = n
first_of (reading.InvalidUtf8Encoding e) = valid_up_to e
first_of (reading.PreallocationSizeLimit needed limit) = needed
first_of (reading.InvalidTagEncoding tag) = tag
first_of (reading.InvalidBoolEncoding byte) = byte
first_of (reading.InvalidCharLead byte) = byte
first_of e = 0

-- The second one, or 0.
abbrev pub second_of : ReadError → ℕ
second_of (reading.InvalidUtf8Encoding e) = bad_bytes (error_len e)
second_of (reading.PreallocationSizeLimit needed limit) = limit
second_of e = 0

-- Bytes that are no text.
use Rattle.std.specs.Prelude.{◌≡◌, ℕ, List, IsUtf8, drop}
use Rattle.std.specs.Str.{valid_up_to, error_len}
use Rattle.std.specs.Str.Lossy.{utf8_valid_len, utf8_error_len}
use Rattle.std.specs.declared.str.Utf8Error.{Utf8Error}

-- These bytes are not UTF-8, and the error says how many of them are, from the front, and how many behind those are at
-- fault, or that the bytes end within a character.
abbrev pub IsUtf8Fault : List ℕ → Utf8Error → Type 0
IsUtf8Fault bytes e = (IsUtf8 bytes → ⊥) × (valid_up_to e ≡ utf8_valid_len bytes) × (error_len e ≡ utf8_error_len (drop (valid_up_to e) bytes))

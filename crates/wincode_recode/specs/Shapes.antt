-- The shapes: the word, the values and the schema of each.
use Rattle.std.specs.Prelude.{◌≡◌, ℕ, Bool, true, false, List, map, codes}
use Rattle.std.specs.Ordering.{nat_cmp}
use Rattle.wincode_collect.specs.Collections.{IsMapOf}
use Rattle.wincode_collect.specs.Seen.{sees, Made}
use Rattle.wincode_base.specs.Arrays.{array_read, array_write}
use Rattle.wincode_base.specs.Gathered.{gathered_read}
use Rattle.wincode_base.specs.Grammar.{ReadGrammar, WriteGrammar}
use Rattle.wincode_base.specs.InWindow.{windowed_write, windowed_read}
use Rattle.wincode_base.specs.Leaves.{number_read, number_write, bool_read, bool_write}
use Rattle.wincode_base.specs.Lengths.{bincode, preallocation_limit}
use Rattle.wincode_base.specs.Lists.{list_read, list_write_of, list_write}
use Rattle.wincode_base.specs.Pairs.{pair_read, pair_write}
use Rattle.wincode_base.specs.Short.{short_scheme}
use Rattle.wincode_base.specs.ItemSizes.{pair_size}
use Rattle.wincode_base.specs.Strings.{str_read, str_write}
use Rattle.wincode_recode.specs.declared.recoding.KnownShape.{KnownShape}
use Rattle.wincode_recode.specs.declared.recoding.KnownShape.TheVariants.{Nested, Text, Short, Record, Pairs}

-- the word by which the command line names a shape
abbrev pub word_of : KnownShape → List ℕ
word_of Nested = codes "nested"
word_of Text = codes "text"
word_of Short = codes "short"
word_of Record = codes "record"
word_of Pairs = codes "pairs"

-- the word is that of a shape
abbrev pub IsKnown : List ℕ → Type 0
IsKnown word = (shape : KnownShape) × (word ≡ word_of shape)

-- what is seen of a shape's values: lists of numbers, the bytes of a text, bytes, a number with a flag and bytes, and
-- the pairs of a map in the order of their keys
abbrev pub Value : KnownShape → Type 0
Value Nested = List (List ℕ)
Value Text = List ℕ
Value Short = List ℕ
Value Record = ℕ × (Bool × List ℕ)
Value Pairs = List (ℕ × ℕ)

-- ---- reading

-- one byte
abbrev pub byte_read : ReadGrammar ℕ
byte_read = number_read 1 true

-- a list of numbers of eight bytes
abbrev pub numbers_read : ReadGrammar (List ℕ)
numbers_read = list_read (bincode preallocation_limit) 24 (number_read 8 true)

-- 32 bytes
abbrev pub bytes_read : ReadGrammar (List ℕ)
bytes_read = windowed_read (array_read 32 byte_read)

-- a number, a flag and 32 bytes
abbrev pub record_read : ReadGrammar (ℕ × (Bool × List ℕ))
record_read = windowed_read (pair_read (number_read 8 true) (pair_read bool_read bytes_read))

-- a map of bytes, in the order of its keys
abbrev pub pairs_read : ReadGrammar (List (ℕ × ℕ))
pairs_read = gathered_read (sees (λ k. k) (λ v. v)) (Made (IsMapOf nat_cmp) (map (sees (λ k. k) (λ v. v)))) (bincode preallocation_limit)
    (pair_size byte_read.meta byte_read.meta) (pair_read byte_read byte_read)

-- how the values of a shape are read
abbrev pub read_of : (shape : KnownShape) → ReadGrammar (Value shape)
read_of Nested = list_read (bincode preallocation_limit) 24 numbers_read
read_of Text = str_read 24 0 false
read_of Short = list_read short_scheme 24 byte_read
read_of Record = record_read
read_of Pairs = pairs_read

-- ---- writing

-- one byte, written
abbrev pub byte_write : WriteGrammar ℕ
byte_write = number_write 1 true

-- how the values of a shape are written
abbrev pub write_of : (shape : KnownShape) → WriteGrammar (Value shape)
write_of Nested = list_write (bincode preallocation_limit) 24 (list_write (bincode preallocation_limit) 24 (number_write 8 true))
write_of Text = str_write 24
write_of Short = list_write short_scheme 24 byte_write
write_of Record = windowed_write (pair_write (number_write 8 true) (pair_write bool_write (windowed_write (array_write 32 byte_write))))
write_of Pairs = list_write_of (bincode preallocation_limit) 24 (pair_size byte_write.meta byte_write.meta) (pair_write byte_write byte_write)

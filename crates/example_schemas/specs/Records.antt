-- A record: a number of eight bytes, a flag and 32 bytes.
use Rattle.std.specs.Prelude.{ℕ, Bool, true, List}
use Rattle.wincode_base.specs.Arrays.{array_read, array_write}
use Rattle.wincode_base.specs.Grammar.{ReadGrammar, WriteGrammar}
use Rattle.wincode_base.specs.InWindow.{windowed_read, windowed_write}
use Rattle.wincode_base.specs.Leaves.{number_read, number_write, bool_read, bool_write}
use Rattle.wincode_base.specs.Pairs.{pair_read, pair_write}

-- how many bytes a record has
abbrev pub record_size : ℕ
record_size = 41

-- its members, one after the other
abbrev pub members_read : ReadGrammar (ℕ × (Bool × List ℕ))
members_read = pair_read (number_read 8 true) (pair_read bool_read (windowed_read (array_read 32 (number_read 1 true))))

-- a record is read through one window of its size
abbrev pub record_read : ReadGrammar (ℕ × (Bool × List ℕ))
record_read = windowed_read members_read

-- its members, one after the other, written
abbrev pub members_write : WriteGrammar (ℕ × (Bool × List ℕ))
members_write = pair_write (number_write 8 true) (pair_write bool_write (windowed_write (array_write 32 (number_write 1 true))))

-- a record is written through one window of its size
abbrev pub record_write : WriteGrammar (ℕ × (Bool × List ℕ))
record_write = windowed_write members_write

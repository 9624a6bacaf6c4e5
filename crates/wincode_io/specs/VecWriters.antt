-- What vectors, and cursors over them, are as writers.
use Rattle.std.specs.Prelude.{ℕ, ◌-◌, min, List, ◌++◌, length, Vec, vec_capacity}
use Rattle.std.specs.Borrow.{GName, MutBor}
use Rattle.wincode_io.specs.Places.{placed}
use Rattle.wincode_io.specs.Writers.{WriterState, in_memory, byte_limit}
use Rattle.wincode_io.specs.CursorWriters.{cursor_put, vec_cursor_room}
use Rattle.wincode_io.specs.declared.cursor.Cursor.{Cursor}

-- so many bytes go behind these before `usize` is full
abbrev pub vec_room : List ℕ → ℕ
vec_room bytes = byte_limit - length bytes

-- A vector appends, and takes memory for what is over its capacity.
abbrev pub vec_state : {Z : Type 0} → Vec ℕ Z → WriterState ◌++◌ vec_room Unit
vec_state v = in_memory v.items tt (min (vec_capacity v - length v.items) (vec_room v.items))

-- A cursor over a vector takes memory for what is over the vector's capacity.
abbrev pub vec_cursor : {Z : Type 0} → Cursor (Vec ℕ Z) → WriterState cursor_put vec_cursor_room Unit
vec_cursor c = in_memory (placed c.inner.items c.position) tt (min (vec_capacity c.inner - c.position) (byte_limit - c.position))

-- so does one over a vector that is lent
abbrev pub lent_vec_cursor : {Z : Type 0} → Cursor (MutBor (Vec ℕ Z)) → WriterState cursor_put vec_cursor_room GName
lent_vec_cursor c = in_memory (placed c.inner.now.items c.position) c.inner.ghost_name (min (vec_capacity c.inner.now - c.position) (byte_limit - c.position))

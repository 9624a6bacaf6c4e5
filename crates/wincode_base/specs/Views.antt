-- The grammars of byte forms, of views of them, and of lists that are lent where they lie.
use Rattle.std.specs.Prelude.{◌≡◌, ◌⊎◌, ℕ, ◌*◌, ◌<◌, ◌≤◌, ◌^◌, Bool, true, List, [], length, min, max, nat_lt, if◌then◌else◌, false}
use Rattle.wincode_io.specs.Joins.{AreItems}
use Rattle.wincode_io.specs.FormCalls.{IsShortOfForm}
use Rattle.wincode_io.specs.Readers.{ReaderState, TakesNumber, StaysSound, IsShort, BytesReadRefused}
use Rattle.wincode_io.specs.Writers.{byte_limit}
use Rattle.wincode_base.specs.Grammar.{ReadGrammar, WriteGrammar, WriteRefusal, ReadRefusal}
use Rattle.wincode_base.specs.Lengths.{bincode}
use Rattle.wincode_base.specs.Lists.{reads_list, list_write}
use Rattle.wincode_base.specs.Outcomes.{PieceReadRefused, PieceWriteRefused, past_usize}
use Rattle.wincode_base.specs.declared.meta.TypeMeta.{TypeMeta}
use Rattle.wincode_base.specs.declared.meta.TypeMeta.TheVariants.{Static, Dynamic}
use Rattle.wincode_base.specs.declared.error.ReadError.TheVariants as reading
use Rattle.wincode_base.specs.declared.error.WriteError.TheVariants as writing
use Rattle.wincode_io.specs.declared.error.WriteError.TheVariants as writer

-- ---- one form

-- a size past `usize::MAX` is announced as none
abbrev pub form_meta : ℕ → Bool → TypeMeta
form_meta s any = if nat_lt s (2 ^ 64) then Static s any else Dynamic

-- A form was refused by the reader, which has the bytes that it had; a size past `usize` is named as `usize::MAX`.
abbrev pub ViewReadRefused : ℕ → ℕ → ReadRefusal
ViewReadRefused borrow s old new (reading.Io e) = BytesReadRefused (IsShortOfForm s old) (old.lends < borrow) (min s byte_limit) old new e
ViewReadRefused borrow s old new _ = ⊥

-- A form has more bytes than there can be, which many at once are refused for.
abbrev pub VastReadRefused : ℕ → ReadRefusal
VastReadRefused s old new (reading.LengthEncodingOverflow t) = StaysSound old new × (2 ^ 64 ≤ s) × (t.now ≡ past_usize)
VastReadRefused s old new _ = ⊥

-- A form that no view is of was refused: by the reader, or as vast.
abbrev pub PodReadRefused : ℕ → ReadRefusal
PodReadRefused s old new e = ViewReadRefused 0 s old new e ⊎ VastReadRefused s old new e

-- A form of s bytes. `any` says that it is announced as that for which every list of s bytes stands, and `refusal` what is
-- said of a refused read.
abbrev pub form_read : {X : Type 0} → (X → Type 0) → ℕ → (X → List ℕ) → Bool → ℕ → ℕ → ReadRefusal → ReadGrammar X
form_read is_valid s form any prealloc borrow refusal = record {
  reads = λ b v. is_valid v × (b ≡ form v);
  meta = form_meta s any;
  prealloc = prealloc;
  borrow = borrow;
  takes_no_memory = true;
  refused = refusal;
}

-- A form of s bytes was refused in one piece; or it has more bytes than there can be, and `usize::MAX` is named.
abbrev pub PodWriteRefused : {X : Type 0} → ℕ → WriteRefusal X
PodWriteRefused s v room added e = PieceWriteRefused s room added e
    ⊎ ((2 ^ 64 ≤ s) × (added ≡ []) × (e ≡ writing.Io (writer.WriteSizeLimit byte_limit)))

-- s bytes, which are the form of each value of the type
abbrev pub form_write : {X : Type 0} → (X → Type 0) → ℕ → (X → List ℕ) → Bool → ℕ → WriteGrammar X
form_write is_valid s form any prealloc = record {
  writes = λ b v. (length b ≡ s) × (is_valid v → b ≡ form v);
  can = λ v. Unit {0};
  size = λ v. s;
  fits = λ v. Unit {0};
  meta = form_meta s any;
  prealloc = prealloc;
  builtin = true;
  refused = PodWriteRefused s;
}

-- what a form by itself counts against the limit of a list: its bytes, at least 1 and at most `usize::MAX`
abbrev pub form_prealloc : ℕ → ℕ
form_prealloc s = min (max s 1) byte_limit

-- a value as its form
abbrev pub pod_read : {X : Type 0} → (X → Type 0) → ℕ → (X → List ℕ) → ReadGrammar X
pod_read is_valid s form = form_read is_valid s form true (form_prealloc s) 0 (PodReadRefused s)

-- a form that is viewed where it lies, by such a borrow
abbrev pub view_read : {X : Type 0} → (X → Type 0) → ℕ → (X → List ℕ) → ℕ → ReadGrammar X
view_read is_valid s form borrow = form_read is_valid s form false 8 borrow (ViewReadRefused borrow s)

-- ---- forms behind their number

-- The n items of s bytes behind their number were refused, and stay: they have more bytes than there can be; or by the
-- reader.
abbrev pub LentRunReadRefused : ℕ → ℕ → ℕ → ReadRefusal
LentRunReadRefused borrow s n old new (reading.Io e) = BytesReadRefused (IsShort (n * s) old) (old.lends < borrow) (n * s) old new e
LentRunReadRefused borrow s n old new (reading.LengthEncodingOverflow t) = StaysSound old new × (2 ^ 64 ≤ n * s) × (t.now ≡ past_usize)
LentRunReadRefused borrow s n old new _ = ⊥

-- A lent list of items of s bytes was refused: its number; or, once that is gone, its items.
abbrev pub LentListReadRefused : ℕ → ℕ → ReadRefusal
LentListReadRefused borrow s old new e = PieceReadRefused 8 old new e
    ⊎ ((n : ℕ) × (mid : ReaderState) × TakesNumber 8 old mid n × LentRunReadRefused borrow s n mid new e)

-- A list that is lent where it lies: its length, as eight bytes, and then its items, of s bytes each, which count at most
-- `usize::MAX` together and take no memory.
abbrev pub lent_read : {V : Type 0} → ℕ → ℕ → ReadGrammar V → ReadGrammar (List V)
lent_read borrow s g = record {
  reads = λ b vs. reads_list (bincode byte_limit) g b vs;
  meta = Dynamic;
  prealloc = 16;
  borrow = borrow;
  takes_no_memory = true;
  refused = LentListReadRefused borrow s;
}

-- The same, written: a list whose length has no limit of its own.
abbrev pub lent_write : {V : Type 0} → WriteGrammar V → WriteGrammar (List V)
lent_write g = list_write (bincode byte_limit) 16 g

-- n such items, without their number
abbrev pub IsLentRun : {V : Type 0} → ReadGrammar V → ℕ → List ℕ → List V → Type 0
IsLentRun g n b vs = (n * g.prealloc ≤ byte_limit) × AreItems n g.reads b vs

-- so, as something to read, of s bytes each
abbrev pub lent_run : {V : Type 0} → ℕ → ℕ → ReadGrammar V → ℕ → ReadGrammar (List V)
lent_run borrow s g n = record {
  reads = IsLentRun g n;
  meta = Dynamic;
  prealloc = 1;
  borrow = borrow;
  takes_no_memory = true;
  refused =
      LentRunReadRefused borrow s n;
}

-- a form among others, which counts its bytes, at least 1
abbrev pub form_item_read : {X : Type 0} → (X → Type 0) → ℕ → (X → List ℕ) → ReadGrammar X
form_item_read is_valid s form = form_read is_valid s form true (max s 1) 0 (ViewReadRefused 0 s)

-- the same, written
abbrev pub form_item_write : {X : Type 0} → (X → Type 0) → ℕ → (X → List ℕ) → WriteGrammar X
form_item_write is_valid s form = form_write is_valid s form true (max s 1)

-- forms of s bytes, which have at most `usize::MAX` bytes together
abbrev pub forms_read : {X : Type 0} → (X → Type 0) → ℕ → (X → List ℕ) → ℕ → ReadGrammar (List X)
forms_read is_valid s form borrow = lent_read borrow s (form_item_read is_valid s form)

-- the same, written
abbrev pub forms_write : {X : Type 0} → (X → Type 0) → ℕ → (X → List ℕ) → WriteGrammar (List X)
forms_write is_valid s form = lent_write (form_item_write is_valid s form)

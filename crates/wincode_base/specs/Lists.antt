-- Texts joined, and lists behind their length.
use Rattle.std.specs.Prelude.{◌≡◌, ◌⊎◌, ℕ, ◌+◌, ◌*◌, ◌-◌, ◌<◌, ◌≤◌, ◌^◌, true, false, ◌&&◌, IsTrue, List, [], ◌∷◌, ◌++◌, length, Option, Some, None, Result, OnOk, OnErr, IfErr}
use Rattle.wincode_io.specs.Readers.{ReaderState, StaysSound}
use Rattle.wincode_io.specs.Writers.{byte_limit}
use Rattle.wincode_io.specs.Joins.{Joined, Each, total, AreItems}
use Rattle.wincode_base.specs.Grammar.{ReadGrammar, WriteGrammar, WriteRefusal, ReadRefusal}
use Rattle.wincode_base.specs.Lengths.{Scheme, HasEncoding, LengthSizeRefused, encoding_len, IsLength, length_write, length_read}
use Rattle.wincode_base.specs.Outcomes.{Gives, ReadRefused, SchemaReadRefused, IsSizeError, IsOverflow, past_usize, PieceWriteRefused, Adds}
use Rattle.wincode_base.specs.InWindow.{WindowReadRefused}
use Rattle.wincode_base.specs.Pairs.{PairWriteRefused}
use Rattle.wincode_base.specs.ItemSizes.{item_size, run_size, behind_size}
use Rattle.wincode_base.specs.declared.error.ReadError.{ReadError}
use Rattle.wincode_base.specs.declared.error.ReadError.TheVariants as reading
use Rattle.wincode_base.specs.declared.error.WriteError.{WriteError}
use Rattle.wincode_base.specs.declared.meta.TypeMeta.{TypeMeta}
use Rattle.wincode_base.specs.declared.meta.TypeMeta.TheVariants.{Static, Dynamic}
use Rattle.wincode_base.specs.declared.sizes.ItemSize.{ItemSize}
use Rattle.wincode_base.specs.declared.sizes.ItemSize.TheVariants.{Bytes, Vast, Unknown}

-- Of items one after another some were written, and then one was refused.
pub record ItemWriteRefused {V : Type 0} (g : WriteGrammar V) (vs : List V) (room : ℕ) (added : List ℕ) (e : WriteError) : Type 0 where
  pub before : List V
  pub item : V
  pub after : List V
  pub encoding : List ℕ
  pub rest : List ℕ
  pub is : vs ≡ before ++ (item ∷ after)
  pub written : Joined g.writes before encoding
  pub joins : added ≡ encoding ++ rest
  pub refused : g.refused item (room - length encoding) rest e

-- So, of items that may differ in size. Items of one size may be written at once.
abbrev pub ItemsWriteRefused : {V : Type 0} → WriteGrammar V → WriteRefusal (List V)
ItemsWriteRefused g vs room added e = g.meta ≡ Dynamic → ItemWriteRefused g vs room added e

-- an item among others, of whose refusal no more is said where it has one size
abbrev pub item_write : {V : Type 0} → WriteGrammar V → WriteGrammar V
item_write g = record g { refused = λ v room added e. g.meta ≡ Dynamic → g.refused v room added e }

-- items without their length, as something to write
abbrev pub items_write : {V : Type 0} → WriteGrammar V → WriteGrammar (List V)
items_write g = record {
  writes = λ b vs. Joined g.writes vs b;
  can = λ vs. Each g.can vs;
  size = λ vs. total g.size vs;
  fits = λ vs. Each g.fits vs;
  meta = Dynamic;
  prealloc = 1;
  builtin = g.builtin;
  refused = ItemsWriteRefused g;
}

-- the same, each item by itself, whatever is announced of their size
abbrev pub each_write : {V : Type 0} → WriteGrammar V → WriteGrammar (List V)
each_write g = record (items_write g) { refused = ItemWriteRefused g }

-- b is the encoding of the length of vs, and then their encodings joined
abbrev pub IsListEncoding : {V : Type 0} → Scheme → (List ℕ → V → Type 0) → List V → List ℕ → Type 0
IsListEncoding s R vs b = (x : List ℕ) × (y : List ℕ) × (s.encoding (length vs) ≡ Some x) × Joined R vs y × (b ≡ x ++ y)

-- b reads as the list vs, whose length the scheme admits
abbrev pub reads_list : {V : Type 0} → Scheme → ReadGrammar V → List ℕ → List V → Type 0
reads_list s g b vs = s.admits (length vs) g.prealloc × IsListEncoding s g.reads vs b

-- A list is within its limits: its length is read, of so much as an item counts, and each item is within its own.
abbrev pub ListFits : {V : Type 0} → Scheme → WriteGrammar V → List V → Type 0
ListFits s g vs = HasEncoding s (length vs) × s.admits (length vs) g.prealloc × Each g.fits vs

-- its length was refused, or, behind its encoding, its items
abbrev pub PartsWriteRefused : {V : Type 0} → Scheme → WriteGrammar V → WriteRefusal (List V)
PartsWriteRefused s g vs = PairWriteRefused (length_write s) (items_write g) (length vs, vs)

-- A list that is written without a window.
abbrev pub parts_write : {V : Type 0} → Scheme → ℕ → WriteGrammar V → WriteGrammar (List V)
parts_write s count g = record {
  writes = λ b vs. IsListEncoding s g.writes vs b;
  can = λ vs. HasEncoding s (length vs) × Each g.can vs;
  size = λ vs. encoding_len (s.encoding (length vs)) + total g.size vs;
  fits = ListFits s g;
  meta = Dynamic;
  prealloc = count;
  builtin = s.builtin && g.builtin;
  refused = PartsWriteRefused s g;
}

-- how many bytes n items of this size have behind their length, where they are at most `usize::MAX`
abbrev pub list_bytes : Scheme → ItemSize → ℕ → Option ℕ
list_bytes s size n = behind_size (encoding_len (s.encoding n)) (run_size n size)

-- What goes through one window of so many bytes was refused: the room for them was, or what is inside it; where they are
-- past `usize::MAX`, nothing was added.
abbrev pub SpanWriteRefused : Option ℕ → (List ℕ → WriteError → Type 0) → ℕ → List ℕ → WriteError → Type 0
SpanWriteRefused None inside room added e = (added ≡ []) × IsOverflow past_usize e
SpanWriteRefused (Some n) inside room added e = PieceWriteRefused n room added e ⊎ inside added e

-- Some item can't be written, and the list was refused in some room as one without a window.
abbrev pub InnerWriteRefused : {V : Type 0} → Scheme → WriteGrammar V → List V → List ℕ → WriteError → Type 0
InnerWriteRefused s g vs added e = (Each g.can vs → ⊥) × ((inside : ℕ) × PartsWriteRefused s g vs inside added e)

-- A list of items of one size was refused: its length has no encoding, and nothing was added; or all of it was, which goes
-- through one window.
abbrev pub WholeWriteRefused : {V : Type 0} → Scheme → ItemSize → WriteGrammar V → WriteRefusal (List V)
WholeWriteRefused s size g vs room added e = ((added ≡ []) × LengthSizeRefused s (length vs) e)
    ⊎ (HasEncoding s (length vs) × SpanWriteRefused (list_bytes s size (length vs)) (InnerWriteRefused s g vs) room added e)

-- a list of items of this size was refused
abbrev pub ListWriteRefused : {V : Type 0} → Scheme → ItemSize → WriteGrammar V → WriteRefusal (List V)
ListWriteRefused s Unknown g = PartsWriteRefused s g
ListWriteRefused s (Bytes k) g = WholeWriteRefused s (Bytes k) g
ListWriteRefused s Vast g = WholeWriteRefused s Vast g

-- A list of items of this size, through one window where it is known.
abbrev pub list_write_of : {V : Type 0} → Scheme → ℕ → ItemSize → WriteGrammar V → WriteGrammar (List V)
list_write_of s count size g = record (parts_write s count g) { refused = ListWriteRefused s size g }

-- The same, written: `fits` says that the length is admitted where the list is read back.
abbrev pub list_write : {V : Type 0} → Scheme → ℕ → WriteGrammar V → WriteGrammar (List V)
list_write s count g = list_write_of s count (item_size g.meta) g

-- The sizes of items after so many bytes were refused: an item can't be written, or the sum is past `usize::MAX`.
abbrev pub SizesRefused : {V : Type 0} → ℕ → WriteGrammar V → List V → WriteError → Type 0
SizesRefused before g vs e = (Each g.can vs → before + total g.size vs < 2 ^ 64 → ⊥) × IsSizeError g.builtin (Each g.can vs) e

-- ---- where a list that is refused leaves the reader

-- Of n items so many were given, one after another; and then the next was refused, or memory was.
pub record ItemReadRefused {V : Type 0} (n : ℕ) (g : ReadGrammar V) (old new : ReaderState) (e : ReadError) : Type 0 where
  pub count : ℕ
  pub items : List V
  pub mid : ReaderState
  pub gives : Gives (AreItems count g.reads) old mid items
  pub stop : ((count < n) × SchemaReadRefused g mid new e) ⊎ ((count ≤ n) × (e ≡ reading.OutOfMemory) × (new ≡ mid))

-- n bytes are there in memory, of no more than `usize::MAX` that are left
abbrev pub AreInMemory : ℕ → ReaderState → Type 0
AreInMemory n s = (s.never_fails ≡ true) × IsTrue s.is_known × (n ≤ length s.rest) × (length s.rest ≤ byte_limit)

-- the bytes of n items are there, where these have one size
abbrev pub AreThere : ℕ → TypeMeta → ReaderState → Type 0
AreThere n Dynamic s = Unit {0}
AreThere n (Static k z) s = AreInMemory (n * k) s

-- So, where the bytes of items of one size are there. Else such items may be refused all at once.
abbrev pub ItemsReadRefused : {V : Type 0} → ℕ → ReadGrammar V → ReadRefusal
ItemsReadRefused n g old new e = AreThere n g.meta old → ItemReadRefused n g old new e

-- the reader stays, and a size overflows
abbrev pub TotalReadRefused : ReadRefusal
TotalReadRefused old new (reading.LengthEncodingOverflow t) = StaysSound old new × (t.now ≡ past_usize)
TotalReadRefused old new _ = ⊥

-- So many bytes go through one window of them; where they are past `usize::MAX`, none is taken.
abbrev pub SpanReadRefused : Option ℕ → ReadRefusal → ReadRefusal
SpanReadRefused None inside = TotalReadRefused
SpanReadRefused (Some n) inside = WindowReadRefused n inside

-- n items of this size were refused
abbrev pub RunReadRefused : {V : Type 0} → ℕ → ItemSize → ReadGrammar V → ReadRefusal
RunReadRefused n Unknown g = ItemReadRefused n g
RunReadRefused n (Bytes s) g = SpanReadRefused (run_size n (Bytes s)) (ItemReadRefused n g)
RunReadRefused n Vast g = SpanReadRefused (run_size n Vast) (ItemReadRefused n g)

-- n items, one after another
abbrev pub items_read : {V : Type 0} → ℕ → ReadGrammar V → ReadGrammar (List V)
items_read n g = record { reads = AreItems n g.reads; meta = Dynamic; prealloc = 1; borrow = g.borrow; takes_no_memory = false; refused = ItemsReadRefused n g }

-- n items of this size, through one window where it is known
abbrev pub run_read : {V : Type 0} → ℕ → ItemSize → ReadGrammar V → ReadGrammar (List V)
run_read n size g = record (items_read n g) { refused = RunReadRefused n size g }

-- What a read answers that adds n values to a list: they are there; or it was refused, and the list is as it was.
pub record AddOutcome {A D V : Type 0} (n : ℕ) (g : ReadGrammar V) (model : D → V) (old new : ReaderState) (before after : List D)
    (r : Result A ReadError) : Type 0 where
  pub ok : OnOk r (Adds n g.reads model old new before after)
  pub refused : IfErr r (SchemaReadRefused (items_read n g) old new)
  pub same : OnErr r (after ≡ before)

-- A list of items of this size was refused: its length was, as the scheme says; or, behind it, its items were.
abbrev pub ListReadRefused : {V : Type 0} → Scheme → ItemSize → ReadGrammar V → ReadRefusal
ListReadRefused s size g old new e = SchemaReadRefused (length_read s g.prealloc) old new e
    ⊎ ((n : ℕ) × (mid : ReaderState) × Gives (IsLength s g.prealloc) old mid n × RunReadRefused n size g mid new e)

-- A list behind its length, of items of this size, which counts so much against the limit of a list of such.
abbrev pub list_read_of : {V : Type 0} → Scheme → ℕ → ItemSize → ReadGrammar V → ReadGrammar (List V)
list_read_of s count size g = record {
  reads = λ b vs. reads_list s g b vs;
  meta = Dynamic;
  prealloc = count;
  borrow = g.borrow;
  takes_no_memory = false;
  refused = ListReadRefused s size g;
}

-- so, of items of which so much is known as is announced
abbrev pub list_read : {V : Type 0} → Scheme → ℕ → ReadGrammar V → ReadGrammar (List V)
list_read s count g = list_read_of s count (item_size g.meta) g

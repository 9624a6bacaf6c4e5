-- What a schema says of encodings and values, and its laws.
use Rattle.std.specs.Prelude.{◌≡◌, ℕ, ◌≤◌, Bool, List, length, IsTrue}
use Rattle.wincode_io.specs.Readers.{ReaderState}
use Rattle.wincode_base.specs.declared.error.ReadError.{ReadError}
use Rattle.wincode_io.specs.Bytes.{IsBytes}
use Rattle.wincode_io.specs.Joins.{IsUnambiguous}
use Rattle.wincode_base.specs.declared.meta.TypeMeta.{TypeMeta}
use Rattle.wincode_base.specs.declared.meta.TypeMeta.TheVariants.{Static, Dynamic}
use Rattle.wincode_base.specs.declared.error.WriteError.{WriteError}

-- What is said of a refused read: of the reader before and after, and the error.
abbrev pub ReadRefusal : Type 1
ReadRefusal = ReaderState → ReaderState → ReadError → Type 0

-- What reading accepts: which encodings read as which value, their size, what a list counts for each such item against
-- its limit, the borrow that reading asks for, and whether it takes no memory; and what it says of each refusal beyond
-- that it is due: the error, and where the reader then stands.
pub record ReadGrammar (V : Type 0) : Type 1 where
  pub reads : List ℕ → V → Type 0
  pub meta : TypeMeta
  pub prealloc : ℕ
  pub borrow : ℕ
  pub takes_no_memory : Bool
  pub refused : ReadRefusal

-- What is said of a refused write: of the value, the room before, the bytes that were added, and the error.
abbrev pub WriteRefusal : Type 0 → Type 1
WriteRefusal V = V → ℕ → List ℕ → WriteError → Type 0

-- no write is refused
abbrev pub never_refused : {V : Type 0} → WriteRefusal V
never_refused v room added e = ⊥

-- What writing makes: the encodings of a value, whether it has one, their size, and whether each length inside is within
-- the limit by which it is read. `builtin` says that all parts are this crate's own, and `refused` what holds of a refused
-- write, also of what can't be written.
pub record WriteGrammar (V : Type 0) : Type 1 where
  pub writes : List ℕ → V → Type 0
  pub can : V → Type 0
  pub size : V → ℕ
  pub fits : V → Type 0
  pub meta : TypeMeta
  pub prealloc : ℕ
  pub builtin : Bool
  pub refused : WriteRefusal V

-- Every encoding has the size; where it is for any bytes, every list of that size is an encoding.
abbrev pub IsReadStatic : {V : Type 0} → (List ℕ → V → Type 0) → TypeMeta → Type 0
IsReadStatic reads Dynamic = Unit {0}
IsReadStatic {V} reads (Static s z) = ((b : List ℕ) (v : V) → reads b v → length b ≡ s)
    × (IsTrue z → (b : List ℕ) → IsBytes b → length b ≡ s → (v : V) × reads b v)

-- Every value can be written, and what can be written has so many bytes.
abbrev pub IsWriteStatic : {X V : Type 0} → (X → Type 0) → (X → V) → (V → Type 0) → (V → ℕ) → TypeMeta → Type 0
IsWriteStatic is_valid model can size Dynamic = Unit {0}
IsWriteStatic {X} {V} is_valid model can size (Static s z) = ((x : X) → is_valid x → can (model x)) × ((v : V) → can v → size v ≡ s)

-- The laws of reading, `read_laws` of a schema: of two encodings neither begins the other, what is read is valid, a
-- size that is announced is that of every encoding, and each value counts at least 1.
pub record ReadLaws {V : Type 0} (is_valid : V → Type 0) (g : ReadGrammar V) : Type 0 where
  pub one_front : IsUnambiguous g.reads
  pub reads_valid : (b : List ℕ) (v : V) → g.reads b v → is_valid v
  pub statics : IsReadStatic g.reads g.meta
  pub prealloc : 1 ≤ g.prealloc

-- The laws of writing, `write_laws` of a schema: exactly what can be written has an encoding, each of its size; what is within
-- its limits can be written; and a size that is announced is that of all that can be. A value is an X, and contracts see it
-- by `model`.
pub record WriteLaws {X V : Type 0} (is_valid : X → Type 0) (model : X → V) (g : WriteGrammar V) : Type 0 where
  pub has_encoding : (v : V) → g.can v → (b : List ℕ) × g.writes b v
  pub encoding_can : (v : V) (b : List ℕ) → g.writes b v → g.can v
  pub encoding_size : (v : V) (b : List ℕ) → g.writes b v → length b ≡ g.size v
  pub can_fit : (v : V) → g.fits v → g.can v
  pub statics : IsWriteStatic is_valid model g.can g.size g.meta

-- An encoding of a value within its limits reads as it, and what was read is within them. The value is an X, which writing
-- sees by `ws` and reading by `rs`.
pub record ReadsBack {X V W : Type 0} (is_valid : X → Type 0) (ws : X → W) (w : WriteGrammar W) (rs : X → V) (r : ReadGrammar V) : Type 0 where
  pub back : (x : X) (b : List ℕ) → is_valid x → w.writes b (ws x) → w.fits (ws x) → r.reads b (rs x)
  pub within : (b : List ℕ) (x : X) → r.reads b (rs x) → w.fits (ws x)
  pub same_prealloc : w.prealloc ≡ r.prealloc
  pub same_meta : w.meta ≡ r.meta

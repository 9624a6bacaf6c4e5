-- Two parts, one after the other.
use Rattle.std.specs.Prelude.{◌≡◌, ◌⊎◌, ℕ, ◌+◌, ◌-◌, ◌^◌, false, ◌&&◌, List, ◌++◌, length, min, max, nat_lt, if◌then◌else◌}
use Rattle.wincode_io.specs.Writers.{byte_limit}
use Rattle.wincode_io.specs.Readers.{ReaderState}
use Rattle.wincode_base.specs.Grammar.{ReadGrammar, WriteGrammar, WriteRefusal, ReadRefusal}
use Rattle.wincode_base.specs.Outcomes.{Gives, SchemaReadRefused}
use Rattle.wincode_base.specs.declared.meta.TypeMeta.{TypeMeta}
use Rattle.wincode_base.specs.declared.meta.TypeMeta.TheVariants.{Static, Dynamic}

-- parts one after another have the sum of their sizes, where it is at most `usize::MAX`
abbrev pub pair_meta : TypeMeta → TypeMeta → TypeMeta
pair_meta Dynamic n = Dynamic
pair_meta (Static a x) Dynamic = Dynamic
pair_meta (Static a x) (Static b y) = if nat_lt (a + b) (2 ^ 64) then Static (a + b) false else Dynamic

-- the first part was refused, or, once it was read, the second
abbrev pub PairReadRefused : {V W : Type 0} → ReadGrammar V → ReadGrammar W → ReadRefusal
PairReadRefused {V} g h old new e = SchemaReadRefused g old new e
    ⊎ ((v : V) × (mid : ReaderState) × Gives g.reads old mid v × SchemaReadRefused h mid new e)

-- Reading two parts, one after the other: cited by tuples, records and the pairs of maps.
abbrev pub pair_read : {V W : Type 0} → ReadGrammar V → ReadGrammar W → ReadGrammar (V × W)
pair_read g h = record {
  reads = λ b v. (x : List ℕ) × (y : List ℕ) × g.reads x v.0 × h.reads y v.1 × (b ≡ x ++ y);
  meta = pair_meta g.meta h.meta;
  prealloc = min (g.prealloc + h.prealloc) byte_limit;
  borrow = max g.borrow h.borrow;
  takes_no_memory = g.takes_no_memory && h.takes_no_memory;
  refused = PairReadRefused g h;
}

-- the first part was refused, or, behind its encoding, the second
abbrev pub PairWriteRefused : {V W : Type 0} → WriteGrammar V → WriteGrammar W → WriteRefusal (V × W)
PairWriteRefused g h v room added e = g.refused v.0 room added e
    ⊎ ((x : List ℕ) × (y : List ℕ) × g.writes x v.0 × (added ≡ x ++ y) × h.refused v.1 (room - length x) y e)

-- Writing two parts, one after the other.
abbrev pub pair_write : {V W : Type 0} → WriteGrammar V → WriteGrammar W → WriteGrammar (V × W)
pair_write g h = record {
  writes = λ b v. (x : List ℕ) × (y : List ℕ) × g.writes x v.0 × h.writes y v.1 × (b ≡ x ++ y);
  can = λ v. g.can v.0 × h.can v.1;
  size = λ v. g.size v.0 + h.size v.1;
  fits = λ v. g.fits v.0 × h.fits v.1;
  meta = pair_meta g.meta h.meta;
  prealloc = min (g.prealloc + h.prealloc) byte_limit;
  builtin = g.builtin && h.builtin;
  refused = PairWriteRefused g h;
}

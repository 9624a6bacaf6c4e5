-- Arrays: so many encodings joined, without a length.
use Rattle.std.specs.Prelude.{◌≡◌, ℕ, ◌*◌, ◌^◌, List, length, min, max, nat_lt, if◌then◌else◌}
use Rattle.wincode_io.specs.Writers.{byte_limit}
use Rattle.wincode_base.specs.Grammar.{ReadGrammar, WriteGrammar, WriteRefusal}
use Rattle.wincode_base.specs.Lists.{ItemReadRefused}
use Rattle.wincode_base.specs.declared.meta.TypeMeta.{TypeMeta}
use Rattle.wincode_base.specs.declared.meta.TypeMeta.TheVariants.{Static, Dynamic}
use Rattle.wincode_io.specs.Joins.{Joined, Each, total, AreItems}
use Rattle.wincode_base.specs.Lists.{ItemWriteRefused}

-- n items of one size have n times it, where that is at most `usize::MAX`
abbrev pub times_meta : ℕ → TypeMeta → TypeMeta
times_meta n Dynamic = Dynamic
times_meta n (Static s z) = if nat_lt (n * s) (2 ^ 64) then Static (n * s) z else Dynamic

-- what n items count, at least 1 and at most `usize::MAX`
abbrev pub times_prealloc : ℕ → ℕ → ℕ
times_prealloc n p = max (min (n * p) byte_limit) 1

-- n items, each with the property
abbrev pub IsArray : {A : Type 0} → ℕ → (A → Type 0) → List A → Type 0
IsArray n P xs = (length xs ≡ n) × Each P xs

-- Reading an array: n items, one after another, with no length before them.
abbrev pub array_read : {V : Type 0} → ℕ → ReadGrammar V → ReadGrammar (List V)
array_read n g = record {
  reads = AreItems n g.reads;
  meta = times_meta n g.meta;
  prealloc = times_prealloc n g.prealloc;
  borrow = g.borrow;
  takes_no_memory = g.takes_no_memory;
  refused = ItemReadRefused n g;
}

-- an array of no one size was refused at an item
abbrev pub ArrayWriteRefused : {V : Type 0} → ℕ → WriteGrammar V → WriteRefusal (List V)
ArrayWriteRefused n g vs room added e = times_meta n g.meta ≡ Dynamic → ItemWriteRefused g vs room added e

-- Writing an array: an encoding of each of n items, one after another, with no length before them.
abbrev pub array_write : {V : Type 0} → ℕ → WriteGrammar V → WriteGrammar (List V)
array_write n g = record {
  writes = λ b vs. (length vs ≡ n) × Joined g.writes vs b;
  can = λ vs. IsArray n g.can vs;
  size = λ vs. total g.size vs;
  fits = λ vs. IsArray n g.fits vs;
  meta = times_meta n g.meta;
  prealloc = times_prealloc n g.prealloc;
  builtin = g.builtin;
  refused = ArrayWriteRefused n g;
}

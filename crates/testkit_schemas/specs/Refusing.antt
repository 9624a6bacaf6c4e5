-- A schema that accepts nothing and whose value has no encoding.
use Rattle.std.specs.Prelude.{◌≡◌, [], true, false}
use Rattle.std.proofs.Common.{arith}
use Rattle.wincode_io.specs.Readers.{ReaderState, nothing}
use Rattle.wincode_base.specs.Grammar.{ReadGrammar, ReadLaws, WriteGrammar, WriteLaws, WriteRefusal}
use Rattle.wincode_base.specs.declared.error.ReadError.{ReadError}
use Rattle.wincode_base.specs.declared.error.ReadError.TheVariants.{Custom}
use Rattle.wincode_base.specs.declared.error.WriteError.TheVariants as writing
use Rattle.wincode_base.specs.declared.meta.TypeMeta.TheVariants.{Dynamic}

-- it is refused by its own error, and the reader stays
abbrev pub IsRefusing : ReaderState → ReaderState → ReadError → Type 0
IsRefusing old new (Custom s) = new ≡ old
IsRefusing old new _ = ⊥

-- no bytes are read as a value
abbrev pub nothing_read : ReadGrammar Unit
nothing_read = record {
  reads = λ b v. ⊥;
  meta = Dynamic;
  prealloc = 1;
  borrow = nothing;
  takes_no_memory = true;
  refused = IsRefusing;
}

pub nothing_read_laws : ReadLaws (λ v. Unit {0}) nothing_read
nothing_read_laws = record {
  one_front = λ a b x y v w r s e. absurd r;
  reads_valid = λ b v r. tt;
  statics = tt;
  prealloc = omega arith;
}

-- it is refused by its own error, and nothing was added
abbrev pub IsRefusingWrite : WriteRefusal Unit
IsRefusingWrite v room added (writing.Custom s) = added ≡ []
IsRefusingWrite v room added _ = ⊥

-- no value can be written
abbrev pub nothing_write : WriteGrammar Unit
nothing_write = record {
  writes = λ b v. ⊥;
  can = λ v. ⊥;
  size = λ v. 0;
  fits = λ v. ⊥;
  meta = Dynamic;
  prealloc = 1;
  builtin = false;
  refused = IsRefusingWrite;
}

pub nothing_write_laws : {X : Type 0} → WriteLaws {X = X} (λ x. Unit {0}) (λ x. tt) nothing_write
nothing_write_laws = record {
  has_encoding = λ v c. absurd c;
  encoding_can = λ v b w. w;
  encoding_size = λ v b w. absurd w;
  can_fit = λ v f. f;
  statics = tt;
}

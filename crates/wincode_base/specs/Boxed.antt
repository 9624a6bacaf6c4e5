-- The grammars of what is held in memory of its own.
use Rattle.std.specs.Prelude.{◌≡◌, ◌⊎◌, false}
use Rattle.wincode_base.specs.Grammar.{ReadGrammar, WriteGrammar, ReadRefusal}
use Rattle.wincode_base.specs.Strings.{reference_meta}
use Rattle.wincode_base.specs.Outcomes.{Gives, SchemaReadRefused}
use Rattle.wincode_base.specs.declared.error.ReadError.TheVariants as reading

-- What is held in memory of its own was refused: what it holds, as its grammar says; or, once that was read, the memory.
abbrev pub BoxedReadRefused : {V : Type 0} → ReadGrammar V → ReadRefusal
BoxedReadRefused {V} g old new e = SchemaReadRefused g old new e
    ⊎ ((e ≡ reading.OutOfMemory) × ((v : V) × Gives g.reads old new v))

-- what is held in memory of its own has the encoding of what it holds
abbrev pub boxed_read : {V : Type 0} → ReadGrammar V → ReadGrammar V
boxed_read g = record {
  reads = g.reads;
  meta = reference_meta g.meta;
  prealloc = 8;
  borrow = g.borrow;
  takes_no_memory = false;
  refused = BoxedReadRefused g;
}

-- and it is written as what it holds
abbrev pub boxed_write : {V : Type 0} → WriteGrammar V → WriteGrammar V
boxed_write g = record g { meta = reference_meta g.meta; prealloc = 8 }

-- Grammars whose values are shown in parts.
use Rattle.std.specs.Prelude.{◌≡◌, ◌⊎◌, ℕ, Bool, true, false, List, [], ◌∷◌, ◌++◌, OnOk, OnErr, IfErr, IsTrue, Result, map, max, nat_eq}
use Rattle.wincode_io.specs.Readers.{ReaderState, nothing}
use Rattle.wincode_base.specs.Grammar.{ReadGrammar, ReadRefusal}
use Rattle.wincode_base.specs.Leaves.{number_read}
use Rattle.wincode_base.specs.Outcomes.{Gives, SchemaReadRefused}
use Rattle.wincode_base.specs.Pairs.{pair_meta}
use Rattle.wincode_base.specs.Sequences.{Then}
use Rattle.wincode_base.specs.Tags.{sides_meta}
use Rattle.wincode_base.specs.declared.error.ReadError.{ReadError}
use Rattle.wincode_base.specs.declared.error.ReadError.TheVariants as reading
use Rattle.wincode_base.specs.declared.meta.TypeMeta.{TypeMeta}
use Rattle.wincode_base.specs.declared.meta.TypeMeta.TheVariants.{Static}
use Rattle.wincode_describe.specs.Parts.{Part, Tag, seen, parts_bytes}
use Rattle.wincode_describe.specs.declared.shown.Shown.{Shown}

-- it is refused so, or memory for what is shown is
abbrev pub OrMemory : ReadRefusal → ReadRefusal
OrMemory refused old new e = refused old new e ⊎ (e ≡ reading.OutOfMemory)

-- What reads as v by a grammar is shown as `show v`. It is refused as by that grammar, or memory for what is shown is.
abbrev pub shown_read : {V : Type 0} → (V → List Part) → ReadGrammar V → ReadGrammar (List Part)
shown_read {V} show g = record {
  reads = λ b w. (v : V) × g.reads b v × (w ≡ show v);
  meta = g.meta;
  prealloc = g.prealloc;
  borrow = g.borrow;
  takes_no_memory = false;
  refused = OrMemory g.refused;
}

-- lists, one after the other
abbrev pub joined : {A : Type 0} → List (List A) → List A
joined [] = []
joined (v ∷ vs) = v ++ joined vs

-- behind the tag t of k bytes: what `case t` reads, shown behind the tag
abbrev pub IsChosen : ℕ → (ℕ → ReadGrammar (List Part)) → ℕ → List ℕ → List Part → Type 0
IsChosen k case t b w = (v : List Part) × (case t).reads b v × (w ≡ Tag k t ∷ v)

-- the tag was refused, or, behind it, what it names
abbrev pub ChosenReadRefused : ℕ → (ℕ → ReadGrammar (List Part)) → ReadRefusal
ChosenReadRefused k case old new e = SchemaReadRefused (number_read k true) old new e
    ⊎ ((t : ℕ) × (mid : ReaderState) × Gives (number_read k true).reads old mid t × SchemaReadRefused (case t) mid new e)

-- What stands behind each tag, the size that all of it has, if it has one, and what it counts against a limit.
pub record CaseGrammars : Type 1 where
  pub case : ℕ → ReadGrammar (List Part)
  pub meta : TypeMeta
  pub prealloc : ℕ

-- A tag of k bytes, and then what it names.
abbrev pub chosen_read : ℕ → CaseGrammars → ReadGrammar (List Part)
chosen_read k cases = record {
  reads = Then (number_read k true).reads (IsChosen k cases.case);
  meta = pair_meta (Static k true) cases.meta;
  prealloc = cases.prealloc;
  borrow = nothing;
  takes_no_memory = false;
  refused = OrMemory (ChosenReadRefused k cases.case);
}

-- nothing stands behind the tag t, which names no case
abbrev pub nameless_read : ℕ → ReadGrammar (List Part)
nameless_read t = record {
  reads = λ b w. ⊥;
  meta = Static 0 false;
  prealloc = 1;
  borrow = nothing;
  takes_no_memory = false;
  refused = λ old new e. (new ≡ old) × (e ≡ reading.InvalidTagEncoding t);
}

-- the first of two grammars, or the second
abbrev pub read_if : Bool → ReadGrammar (List Part) → ReadGrammar (List Part) → ReadGrammar (List Part)
read_if true g h = g
read_if false g h = h

-- one case, with the tag n
abbrev pub one_case : ℕ → ReadGrammar (List Part) → CaseGrammars
one_case n g = record { case = λ t. read_if (nat_eq n t) g (nameless_read t); meta = g.meta; prealloc = g.prealloc }

-- a case with the tag n, or one of the others
abbrev pub or_case : ℕ → ReadGrammar (List Part) → CaseGrammars → CaseGrammars
or_case n g others = record {
  case = λ t. read_if (nat_eq n t) g (others.case t);
  meta = sides_meta g.meta others.meta;
  prealloc =
      max g.prealloc others.prealloc;
}

-- what parts were given to what takes them, and what it is then
abbrev pub Took : Type 0 → Type 1
Took B = B → List Shown → B → Type 0

-- Nothing is given at no step, and what is given in two steps is given in one.
pub record SinkLaws {B : Type 0} (took : Took B) : Type 0 where
  pub none : (s : B) → took s [] s
  pub joins : (s t u : B) (xs ys : List Shown) → took s xs t → took t ys u → took s (xs ++ ys) u

-- what reading gave is shown behind what was shown before
pub record Shows {B : Type 0} (took : Took B) (reads : List ℕ → List Part → Type 0) (old new : ReaderState) (before after : B) : Type 0 where
  pub more : List Shown
  pub is : took before more after
  pub gives : Gives reads old new (map seen more)

-- some parts were shown, behind what was shown before, whose bytes are a front of what the reader had
pub record Began {B : Type 0} (took : Took B) (old : ReaderState) (before after : B) : Type 0 where
  pub more : List Shown
  pub is : took before more after
  pub front : IsTrue old.is_known → (rest : List ℕ) × (old.rest ≡ parts_bytes (map seen more) ++ rest)

-- What a read answers that shows its value: it is shown, behind what was shown before; or it was refused, as the grammar
-- says, and the parts that were read before stay.
pub record ShowOutcome {A B : Type 0} (took : Took B) (g : ReadGrammar (List Part)) (old new : ReaderState) (before after : B)
    (r : Result A ReadError) : Type 0 where
  pub ok : OnOk r (Shows took g.reads old new before after)
  pub refused : IfErr r (SchemaReadRefused g old new)
  pub began : OnErr r (Began took old before after)

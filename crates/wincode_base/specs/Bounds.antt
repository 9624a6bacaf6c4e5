-- The grammar of an end of a range: a tag of four bytes, and then its value, if it has one.
use Rattle.std.specs.declared.ops.Bound.{Bound}
use Rattle.std.specs.declared.ops.Bound.TheVariants.{Included, Excluded, Unbounded}
use Rattle.std.specs.Prelude.{◌≡◌, ◌⊎◌, ℕ, ◌≤◌, List, []}
use Rattle.wincode_base.specs.Grammar.{ReadGrammar, WriteGrammar, WriteRefusal, ReadRefusal}
use Rattle.wincode_base.specs.Outcomes.{unsaid}
use Rattle.wincode_base.specs.Tags.{tagged_read, tagged_write, TagReadRefused, PartReadRefused}
use Rattle.wincode_base.specs.declared.meta.TypeMeta.TheVariants.{Dynamic}

-- the tag of an end
abbrev pub bound_tag : {V : Type 0} → Bound V → ℕ
bound_tag Unbounded = 0
bound_tag (Included v) = 1
bound_tag (Excluded v) = 2

-- behind the tag: nothing, or a value
abbrev pub IsBoundPart : {V : Type 0} → (List ℕ → V → Type 0) → List ℕ → Bound V → Type 0
IsBoundPart reads b Unbounded = b ≡ []
IsBoundPart reads b (Included v) = reads b v
IsBoundPart reads b (Excluded v) = reads b v

-- an end without its tag
abbrev pub bound_part_read : {V : Type 0} → ReadGrammar V → ReadGrammar (Bound V)
bound_part_read g = record {
  reads = IsBoundPart g.reads;
  meta = Dynamic;
  prealloc = g.prealloc;
  borrow = g.borrow;
  takes_no_memory = g.takes_no_memory;
  refused = unsaid;
}

-- an end was refused: its tag; or, behind the tag 1 or 2, its value
abbrev pub BoundReadRefused : {V : Type 0} → ReadGrammar V → ReadRefusal
BoundReadRefused g old new e = TagReadRefused 4 (λ t. 3 ≤ t) old new e ⊎ (PartReadRefused 4 1 g old new e ⊎ PartReadRefused 4 2 g old new e)

-- `Unbounded` is the tag 0, `Included` the tag 1 and then its value, and `Excluded` the tag 2 and then its value.
abbrev pub bound_read : {V : Type 0} → ReadGrammar V → ReadGrammar (Bound V)
bound_read g = tagged_read 4 bound_tag (BoundReadRefused g) (bound_part_read g)

-- what holds of the value, if there is one
abbrev pub IfBound : {V : Type 0} → (V → Type 0) → Bound V → Type 0
IfBound P Unbounded = Unit {0}
IfBound P (Included v) = P v
IfBound P (Excluded v) = P v

-- the size of the value, if there is one
abbrev pub bound_size : {V : Type 0} → (V → ℕ) → Bound V → ℕ
bound_size size Unbounded = 0
bound_size size (Included v) = size v
bound_size size (Excluded v) = size v

-- where there is no value nothing is refused behind the tag
abbrev pub BoundWriteRefused : {V : Type 0} → WriteRefusal V → WriteRefusal (Bound V)
BoundWriteRefused refused Unbounded room added e = ⊥
BoundWriteRefused refused (Included v) room added e = refused v room added e
BoundWriteRefused refused (Excluded v) room added e = refused v room added e

-- an end without its tag, written
abbrev pub bound_part_write : {V : Type 0} → WriteGrammar V → WriteGrammar (Bound V)
bound_part_write g = record {
  writes = IsBoundPart g.writes;
  can = IfBound g.can;
  size = bound_size g.size;
  fits = IfBound g.fits;
  meta = Dynamic;
  prealloc = g.prealloc;
  builtin = g.builtin;
  refused = BoundWriteRefused g.refused;
}

-- The same, written.
abbrev pub bound_write : {V : Type 0} → WriteGrammar V → WriteGrammar (Bound V)
bound_write g = tagged_write 4 bound_tag (bound_part_write g)

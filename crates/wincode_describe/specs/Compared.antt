-- What the encodings of two types are to each other.
use Rattle.std.specs.Prelude.{◌≡◌, ◌<◌, ℕ, zero, suc, Bool, true, false, ◌&&◌, nat_lt, List, [], ◌∷◌, ◌++◌, length, drop}
use Rattle.wincode_base.specs.Grammar.{ReadGrammar}
use Rattle.wincode_base.specs.Leaves.{unit_read}
use Rattle.wincode_base.specs.Lengths.{Scheme}
use Rattle.wincode_base.specs.Outcomes.{Found}
use Rattle.wincode_base.specs.Pairs.{pair_read}
use Rattle.wincode_base.specs.declared.error.ReadError.{ReadError}
use Rattle.wincode_base.specs.declared.error.ReadError.TheVariants as reading
use Rattle.wincode_io.specs.declared.error.ReadError.TheVariants as reader
use Rattle.wincode_describe.specs.Forms.{seen_cases}
use Rattle.wincode_describe.specs.Parts.{Part}
use Rattle.wincode_describe.specs.Readers.{has_tag}
use Rattle.wincode_describe.specs.ShownGrammars.{shown_read, nameless_read}
use Rattle.wincode_describe.specs.Types.{described_read, cases_read, both_shown}
use Rattle.wincode_describe.specs.declared.comparing.Answer.{Answer}
use Rattle.wincode_describe.specs.declared.comparing.Answer.TheVariants as answer
use Rattle.wincode_describe.specs.declared.described.Cases.{Cases}
use Rattle.wincode_describe.specs.declared.described.Described.{Described}
use Rattle.wincode_describe.specs.declared.described.Described.TheVariants as type
use Rattle.wincode_describe.specs.declared.likeness.Likeness.{Likeness}
use Rattle.wincode_describe.specs.declared.likeness.Likeness.TheVariants.{Same, Reads, Unlike}

-- Each input that begins with a value of the old type begins with one of the new type, as long and with the same parts, which
-- so stand at the same offsets.
abbrev pub ReadsAs : Described → Described → Type 0
ReadsAs old new = (bytes rest : List ℕ) (parts : List Part) → Found (described_read old).reads bytes parts rest
    → Found (described_read new).reads bytes parts rest

-- The old type accepts a front of these bytes, and the new one no front with those parts.
abbrev pub IsWitness : Described → Described → List ℕ → Type 0
IsWitness old new bytes = (parts : List Part) × (rest : List ℕ) × Found (described_read old).reads bytes parts rest
    × ((left : List ℕ) → Found (described_read new).reads bytes parts left → ⊥)

-- an error that says that no value stands at the front, whatever memory and borrows there are
abbrev pub IsUnaccepted : ReadError → Type 0
IsUnaccepted reading.OutOfMemory = ⊥
IsUnaccepted (reading.Io (reader.ReadSizeLimit n)) = Unit {0}
IsUnaccepted (reading.Io e) = ⊥
IsUnaccepted e = Unit {0}

-- What an answer promises of two types.
abbrev pub Answers : Answer → Described → Described → Type 0
Answers answer.Same old new = ReadsAs old new × ReadsAs new old
Answers answer.Reads old new = ReadsAs old new
Answers answer.Differs old new = (bytes : List ℕ) × IsWitness old new bytes
Answers answer.MayDiffer old new = Unit {0}

-- what reads by the one grammar reads by the other, as the same parts
abbrev pub Within : ReadGrammar (List Part) → ReadGrammar (List Part) → Type 0
Within g h = (b : List ℕ) (w : List Part) → g.reads b w → h.reads b w

-- What an answer says of two grammars: the same reads by both; what reads by the first reads by the second; or nothing.
abbrev pub IsLike : Likeness → ReadGrammar (List Part) → ReadGrammar (List Part) → Type 0
IsLike Same g h = Within g h × Within h g
IsLike Reads g h = Within g h
IsLike Unlike g h = Unit {0}

-- So, of the lengths that a scheme reads where an item counts so much, and where it counts that.
abbrev pub IsWider : Likeness → Scheme → ℕ → ℕ → Type 0
IsWider Same s p q = ((n : ℕ) → s.admits n p → s.admits n q) × ((n : ℕ) → s.admits n q → s.admits n p)
IsWider Reads s p q = (n : ℕ) → s.admits n p → s.admits n q
IsWider Unlike s p q = Unit {0}

-- what two answers say together
abbrev pub both : Likeness → Likeness → Likeness
both Same b = b
both Reads Same = Reads
both Reads Reads = Reads
both Reads Unlike = Unlike
both Unlike b = Unlike

-- So, of what stands behind each tag of the cases, and what stands there behind the same tag.
abbrev pub AreLike : Likeness → Cases → (ℕ → ReadGrammar (List Part)) → Type 0
AreLike a cs case = (t : ℕ) → has_tag (seen_cases cs) t ≡ true → IsLike a ((cases_read cs).case t) (case t)

-- the side of a result that a tag names
abbrev pub side_at : ReadGrammar (List Part) → ReadGrammar (List Part) → ℕ → ReadGrammar (List Part)
side_at g h zero = g
side_at g h (suc zero) = h
side_at g h (suc (suc t)) = nameless_read (suc (suc t))

-- each tag of the first cases is one of the others
abbrev pub AreNamed : Cases → Cases → Type 0
AreNamed cs ds = (t : ℕ) → has_tag (seen_cases cs) t ≡ true → has_tag (seen_cases ds) t ≡ true

-- each tag is one of the two sides of a result
abbrev pub AreSides : Cases → Type 0
AreSides cs = (t : ℕ) → has_tag (seen_cases cs) t ≡ true → t < 2

-- a list so many times, one after another
abbrev pub repeated : {A : Type 0} → ℕ → List A → List A
repeated zero xs = []
repeated (suc n) xs = xs ++ repeated n xs

-- an array of at most 64 items, in each of which at most 64 types stand in a row, is a row of them
abbrev pub is_row : ℕ → ℕ → Bool
is_row n width = nat_lt n 65 && nat_lt width 65

-- so many times these types, or the one type
abbrev pub row_or : Bool → ℕ → List Described → Described → List Described
row_or true n ds d = repeated n ds
row_or false n ds d = d ∷ []

-- the types whose values stand in a row in one of this type, without what adds no bytes around them
abbrev pub heads : Described → List Described
heads (type.Boxed' p d) = heads d
heads (type.Tuple' p d) = heads d
heads (type.Struct' p d) = heads d
heads (type.Field' s p d) = heads d
heads (type.Joined' p d q e) = heads d ++ heads e
heads (type.Array' n p d) = row_or (is_row n (length (heads d))) n (heads d) (type.Array' n p d)
heads d = d ∷ []

-- values of these types, one after another
abbrev pub row_read : List Described → ReadGrammar (List Part)
row_read [] = shown_read (λ v. []) unit_read
row_read (d ∷ ds) = shown_read both_shown (pair_read (described_read d) (row_read ds))

-- A type stands at this place of a list.
abbrev pub StandsAt : ℕ → List Described → Described → Type 0
StandsAt i ds d = (before behind : List Described) × (ds ≡ before ++ (d ∷ behind)) × (length before ≡ i)

-- So of a grammar, and of those of these types that stand from one place up to another.
abbrev pub Takes : Likeness → ReadGrammar (List Part) → List Described → ℕ → ℕ → Type 0
Takes Unlike g ds at end = Unit {0}
Takes a g ds at end = (mine : List Described) × (drop at ds ≡ mine ++ drop end ds) × IsLike a g (row_read mine)

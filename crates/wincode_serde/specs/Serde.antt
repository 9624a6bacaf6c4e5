-- What deserializing bytes answers.
use Rattle.std.specs.Prelude.{◌≡◌, ℕ, ◌<◌, List, length, IsTrue, Option}
use Rattle.std.specs.Option.{IsSomeAnd}
use Rattle.wincode_io.specs.Readers.{ReaderState}
use Rattle.wincode_base.specs.Grammar.{ReadGrammar}
use Rattle.wincode_base.specs.Outcomes.{Found, FrontReadRefused}
use Rattle.wincode_serde.specs.declared.exact.ExactError.{ExactError}
use Rattle.wincode_serde.specs.declared.exact.ExactError.TheVariants.{Read, Behind}

-- a front of the bytes, where they are told, reads as the value
abbrev pub IsInFront : {V : Type 0} → (List ℕ → V → Type 0) → ReaderState → V → Type 0
IsInFront reads old v = IsTrue old.is_known → (rest : List ℕ) × Found reads old.rest v rest

-- the destination holds a value that reads in front of the bytes
abbrev pub HoldsFront : {D V : Type 0} → (List ℕ → V → Type 0) → (D → V) → ReaderState → Option D → Type 0
HoldsFront reads model old dst = IsSomeAnd dst (λ d. IsInFront reads old (model d))

-- Why bytes are not exactly one value: no front of them is one, as its schema says; or so many are left behind it.
abbrev pub ExactRefused : {V : Type 0} → ReadGrammar V → ReaderState → ExactError → Type 0
ExactRefused g s (Read e) = FrontReadRefused g s e
ExactRefused {V} g s (Behind n) = (0 < n) × (v : V) × (rest : List ℕ) × Found g.reads s.rest v rest × (n ≡ length rest)

-- Cases in two parts: those whose tags are below a bound, and those whose tags aren't.
use Rattle.std.specs.Prelude.{ℕ, ◌⊎◌, ◌<◌, ◌≤◌, Result, Ok, Err}
use Rattle.wincode_base.specs.Grammar.{ReadRefusal}

-- each of the first cases has a tag below n, and each of the others one that isn't
abbrev pub split_own : {V W : Type 0} → ℕ → (V → ℕ) → (V → Type 0) → (W → ℕ) → (W → Type 0) → Result V W → Type 0
split_own n tag own tag' own' (Ok v) = own v × (tag v < n)
split_own n tag own tag' own' (Err w) = own' w × (n ≤ tag' w)

-- Behind the tag t: one of the first cases was refused, if t is below n, and else one of the others.
abbrev pub SplitReadRefused : ℕ → (ℕ → ReadRefusal) → (ℕ → ReadRefusal) → ℕ → ReadRefusal
SplitReadRefused n first others t old new e = ((t < n) × first t old new e) ⊎ ((n ≤ t) × others t old new e)

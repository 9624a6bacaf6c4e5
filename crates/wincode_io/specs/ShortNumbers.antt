-- Short numbers as bytes.
use Rattle.std.specs.Prelude.{◌≡◌, ℕ, ◌+◌, ◌/◌, ◌%◌, ◌<◌, ◌^◌, List, [], ◌∷◌, ◌++◌, zero, suc, nat_lt, if◌then◌else◌}

-- n in groups of seven bits, the lowest first, with 128 added to each but the last; at most k stand before the last
unfoldable pub groups : ℕ → ℕ → List ℕ
groups zero n = n ∷ []
groups (suc k) n = if nat_lt n 128 then n ∷ [] else ((128 + n % 128) ∷ groups k (n / 128))

-- A short number: n below 2 to the 16 in one byte, in two from 128 on, in three from 16384 on.
abbrev pub short_encoding : ℕ → List ℕ
short_encoding n = groups 2 n

-- the groups of n stand in front
abbrev pub BeginsGrouped : ℕ → List ℕ → ℕ → Type 0
BeginsGrouped k bytes n = (more : List ℕ) × (bytes ≡ groups k n ++ more)

-- the short number n stands in front
abbrev pub BeginsShort : List ℕ → ℕ → Type 0
BeginsShort bytes n = (n < 2 ^ 16) × BeginsGrouped 2 bytes n

-- no short number stands in front
abbrev pub BeginsNoShort : List ℕ → Type 0
BeginsNoShort bytes = (n : ℕ) → BeginsShort bytes n → ⊥

-- What may be a note: a comment that begins as `// wincode:` does, or nearly so.
use Rattle.std.specs.Prelude.{ℕ, Bool, false, nat_lt, ◌||◌, ◌&&◌, ◌==◌, if◌then◌else◌, List, [], ◌∷◌, take, codes}
use Rattle.std.specs.Str.{str_eq_ignore_ascii_case}

-- what may stand in front of the words of a comment: a stroke, a star, `!` or white space
abbrev pub of_lead : ℕ → Bool
of_lead b = (b == 47) || (b == 42) || (b == 33) || (b == 32) || (nat_lt 8 b && nat_lt b 14)

-- what stands behind all of these at the front
abbrev pub behind_lead : List ℕ → List ℕ
behind_lead [] = []
behind_lead (b ∷ bs) = if of_lead b then behind_lead bs else b ∷ bs

-- the word `wincode` stands in front, in letters of any case
abbrev pub has_name : List ℕ → Bool
has_name bytes = str_eq_ignore_ascii_case (take 7 bytes) (codes "wincode")

-- a character stands in front that isn't ASCII
abbrev pub is_foreign : List ℕ → Bool
is_foreign [] = false
is_foreign (b ∷ bs) = nat_lt 127 b

-- In the words of the comment `wincode` comes first, or what isn't ASCII, and may be white space of another kind.
abbrev pub may_be_note : List ℕ → Bool
may_be_note comment = is_foreign (behind_lead comment) || has_name (behind_lead comment)

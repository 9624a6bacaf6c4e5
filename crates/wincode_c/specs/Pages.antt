-- Lines of a text, as many as fit into so much room.
use Rattle.std.specs.Prelude.{◌≡◌, ◌⊎◌, ℕ, zero, suc, ◌+◌, ◌<◌, ◌≤◌, List, [], ◌∷◌, length, take, drop, cond, nat_eq}

-- How many bytes the first line has, its line break with it; all of them where there is none.
abbrev pub line_length : List ℕ → ℕ
line_length [] = 0
line_length (c ∷ cs) = suc (cond (nat_eq c 10) 0 (line_length cs))

-- What is behind so many lines.
abbrev pub behind_lines : ℕ → List ℕ → List ℕ
behind_lines zero text = text
behind_lines (suc n) text = behind_lines n (drop (line_length text) text)

-- So many bytes are the first so many lines, whole ones; they fit into the room, and one more wouldn't.
pub record AreFitting (text : List ℕ) (room taken lines : ℕ) : Type 0 where
  pub behind : drop taken text ≡ behind_lines lines text
  pub within : taken ≤ length text
  pub fits : taken ≤ room
  pub full : (drop taken text ≡ []) ⊎ (room < taken + line_length (drop taken text))

-- The room's front has these lines, from the line with that number on, and what is behind it is as before.
pub record IsPage (text : List ℕ) (from : ℕ) (old new : List ℕ) (taken lines behind : ℕ) : Type 0 where
  pub fitting : AreFitting (behind_lines from text) (length old) taken lines
  pub front : take taken new ≡ take taken (behind_lines from text)
  pub rest : drop taken new ≡ drop taken old
  pub left : length (behind_lines from text) ≡ taken + behind

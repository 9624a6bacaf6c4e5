-- The words and signs of a described type, and which forms are of types.
use Rattle.std.specs.Prelude.{◌≡◌, ◌^◌, ◌<◌, ◌≤◌, ℕ, zero, suc, Bool, true, false, List, ◌∷◌, length, codes}
use Rattle.std.specs.Fmt.{decimal}
use Rattle.wincode_derive_text.specs.Splits.{all_of_word}
use Rattle.wincode_derive_text.specs.declared.tokens.Kind.TheVariants as kind
use Rattle.wincode_describe.specs.Forms.{Form, Number, NotZero, Standard, Flag, Letter, Nothing, Words, Bytes, ByteBlock, Maybe, Either, Held, Many, Several, Pairs}
use Rattle.wincode_describe.specs.Forms.{Block, Group, Record, Both, Named, Choice, LastCase, OneCase}
use Rattle.wincode_describe.specs.Phrases.{Piece}
use Rattle.wincode_describe.specs.Readers.{greatest_of, has_tag}
use Rattle.wincode_describe.specs.Written.{integer_name, nonzero_name, std_name, tag_name}
use Rattle.wincode_describe.specs.declared.described.Integer.TheVariants.{U8}
use Rattle.wincode_describe.specs.declared.described.LengthScheme.{LengthScheme}
use Rattle.wincode_describe.specs.declared.described.LengthScheme.TheVariants.{Eight, Short}

-- a word, as a piece of the text
abbrev pub word : List ℕ → Piece
word w = (kind.Word, w)

-- a sign, as a piece of the text
abbrev pub sign : List ℕ → Piece
sign s = (kind.Sign, s)

-- the words of a list, in front of the rest
abbrev pub list_words : LengthScheme → List Piece → List Piece
list_words Eight rest = word (codes "Vec") ∷ rest
list_words Short rest = word (codes "short") ∷ word (codes "Vec") ∷ rest

-- the words and signs of a form, in front of the rest
abbrev pub spelled : Form → List Piece → List Piece
spelled (Number i) rest = word (integer_name i) ∷ rest
spelled (NotZero i) rest = word (nonzero_name i) ∷ rest
spelled (Standard k) rest = word (std_name k) ∷ rest
spelled Flag rest = word (codes "bool") ∷ rest
spelled Letter rest = word (codes "char") ∷ rest
spelled Nothing rest = sign (codes "(") ∷ sign (codes ")") ∷ rest
spelled Words rest = word (codes "String") ∷ rest
spelled (Bytes s) rest = list_words s (sign (codes "<") ∷ word (codes "u8") ∷ sign (codes ">") ∷ rest)
spelled (ByteBlock n) rest = sign (codes "[") ∷ word (codes "u8") ∷ sign (codes ";") ∷ word (decimal n) ∷ sign (codes "]") ∷ rest
spelled (Maybe d) rest = word (codes "Option") ∷ sign (codes "<") ∷ spelled d (sign (codes ">") ∷ rest)
spelled (Either d e) rest = word (codes "Result") ∷ sign (codes "<") ∷ spelled d (sign (codes ",") ∷ spelled e (sign (codes ">") ∷ rest))
spelled (Held d) rest = word (codes "Box") ∷ sign (codes "<") ∷ spelled d (sign (codes ">") ∷ rest)
spelled (Many s d) rest = list_words s (sign (codes "<") ∷ spelled d (sign (codes ">") ∷ rest))
spelled (Several d) rest = word (codes "BTreeSet") ∷ sign (codes "<") ∷ spelled d (sign (codes ">") ∷ rest)
spelled (Pairs d) rest = word (codes "BTreeMap") ∷ sign (codes "<") ∷ spelled d (sign (codes ">") ∷ rest)
spelled (Block n d) rest = sign (codes "[") ∷ spelled d (sign (codes ";") ∷ word (decimal n) ∷ sign (codes "]") ∷ rest)
spelled (Group d) rest = sign (codes "(") ∷ spelled d (sign (codes ")") ∷ rest)
spelled (Record d) rest = word (codes "struct") ∷ sign (codes "{") ∷ spelled d (sign (codes "}") ∷ rest)
spelled (Both d e) rest = spelled d (sign (codes ",") ∷ spelled e rest)
spelled (Named s d) rest = word s ∷ sign (codes ":") ∷ spelled d rest
spelled (Choice k d) rest = word (codes "enum") ∷ word (tag_name k) ∷ sign (codes "{") ∷ spelled d (sign (codes "}") ∷ rest)
spelled (LastCase n d) rest = word (decimal n) ∷ sign (codes ":") ∷ spelled d rest
spelled (OneCase n d e) rest = word (decimal n) ∷ sign (codes ":") ∷ spelled d (sign (codes ",") ∷ spelled e rest)

-- a name of a field
abbrev pub IsName : List ℕ → Type 0
IsName s = (0 < length s) × (all_of_word s ≡ true)

-- one level is taken of those that there are
abbrev pub Within : ℕ → (ℕ → Type 0) → Type 0
Within zero P = ⊥
Within (suc below) P = P below

abbrev mutual
  -- A type of at most so many levels, as parsing makes them: what holds bytes alone is one part. It may be several members
  -- where that is said, and each takes one level more.
  pub IsForm : Form → Bool → ℕ → Type 0
  IsForm (Both d e) true n = IsForm d false n × Within n (λ m. IsForm e true m)
  IsForm (Both d e) false n = ⊥
  IsForm (Bytes s) b n = Within n (λ m. 0 < m)
  IsForm (ByteBlock k) b n = Within n (λ m. (0 < m) × (k < 2 ^ 64))
  IsForm (Maybe d) b n = Within n (λ m. IsForm d false m)
  IsForm (Either d e) b n = Within n (λ m. IsForm d false m × IsForm e false m)
  IsForm (Held d) b n = Within n (λ m. IsForm d false m)
  IsForm (Many s d) b n = Within n (λ m. IsForm d false m × (d ≡ Number U8 → ⊥))
  IsForm (Several d) b n = Within n (λ m. IsForm d false m)
  IsForm (Pairs (Both d e)) b n = Within n (λ m. IsForm d false m × IsForm e false m)
  IsForm (Pairs d) b n = ⊥
  IsForm (Block k d) b n = Within n (λ m. (k < 2 ^ 64) × IsForm d false m × (d ≡ Number U8 → ⊥))
  IsForm (Group (Both d e)) b n = Within n (λ m. IsForm d false m × Within m (λ k. IsForm e true k))
  IsForm (Group d) b n = ⊥
  IsForm (Record d) b n = Within n (λ m. AreFields d m)
  IsForm (Choice k d) b n = Within n (λ m. AreCases d (greatest_of k) m)
  IsForm (Named s d) b n = ⊥
  IsForm (LastCase t d) b n = ⊥
  IsForm (OneCase t d e) b n = ⊥
  IsForm _ b n = 0 < n

  -- fields with names that are words
  pub AreFields : Form → ℕ → Type 0
  AreFields (Both (Named s d) e) n = Within n (λ m. IsName s × IsForm d false m × AreFields e m)
  AreFields (Named s d) n = Within n (λ m. IsName s × IsForm d false m)
  AreFields _ n = ⊥

  -- the tags are of the size of the enum, and differ
  pub AreCases : Form → ℕ → ℕ → Type 0
  AreCases (LastCase t d) greatest n = Within n (λ m. (t ≤ greatest) × (t < 2 ^ 64) × IsForm d false m)
  AreCases (OneCase t d e) greatest n = Within n (λ m. (t ≤ greatest) × (t < 2 ^ 64) × IsForm d false m × AreCases e greatest m × (has_tag e t ≡ false))
  AreCases _ greatest n = ⊥

-- a described type of at most so many levels
abbrev pub IsType : ℕ → Form → Type 0
IsType n f = IsForm f false n

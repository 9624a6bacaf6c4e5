-- What the words and signs of a type say.
use Rattle.std.specs.Prelude.{◌≡◌, ◌^◌, ℕ, if◌then◌else◌, ◌&&◌, nat_lt, List, [], ◌∷◌, length, drop, map, bytes_eq, Option, Some, None}
use Rattle.std.specs.Prelude.{option_and_then, option_map, Result, Ok, Err}
use Rattle.std.specs.Global.{Vec}
use Rattle.std.specs.Str.{all_ascii_digits}
use Rattle.std.specs.Str.Parse.{digits_value, without_leading_plus}
use Rattle.wincode_derive_text.specs.Splits.{piece}
use Rattle.wincode_derive_text.specs.declared.tokens.Kind.{Kind}
use Rattle.wincode_derive_text.specs.declared.tokens.Kind.TheVariants as kind
use Rattle.wincode_derive_text.specs.declared.tokens.Token.{Token}
use Rattle.wincode_describe.specs.declared.error.DescribeError.{DescribeError}
use Rattle.wincode_describe.specs.declared.error.DescribeError.TheVariants.{OutOfMemory}
use Rattle.wincode_describe.specs.declared.tokens.Tokens.{Tokens}

-- a word or a sign, and its bytes
abbrev pub Piece : Type 0
Piece = Kind × List ℕ

-- the words and signs of tokens
abbrev pub pieces : List Token → List Piece
pieces tokens = map piece tokens

-- what is left of a text
abbrev pub left : Tokens → List Piece
left tokens = drop tokens.next (pieces tokens.tokens.now)

-- What is said of a reading: nothing, that it is refused, or what it gives.
pub data Said (A : Type 0) : Type 0 where
  Unsaid : Said A
  Refused : Said A
  Gives : A → Said A

-- one reading after another
abbrev pub and_then : {A B : Type 0} → Said A → (A → Said B) → Said B
and_then Unsaid f = Unsaid
and_then Refused f = Refused
and_then (Gives x) f = f x

-- It is refused where there is none.
abbrev pub needed : {A : Type 0} → Option A → Said A
needed None = Refused
needed (Some x) = Gives x

-- Nothing is said where there is none.
abbrev pub known : {A : Type 0} → Option A → Said A
known None = Unsaid
known (Some x) = Gives x

-- by what is there, or else
abbrev pub on : {A B : Type 0} → Option A → (A → B) → B → B
on None f other = other
on (Some x) f other = f x

-- Nothing but memory is refused, unless there is a source: it may be refused for its faults.
abbrev pub IsRefusal : List Piece → DescribeError → Type 0
IsRefusal [] e = e ≡ OutOfMemory
IsRefusal (p ∷ source) e = Unit

-- What was read, by the source, is what is said, and the rest is left; or it was refused.
abbrev pub Reads : {X Y : Type 0} → List Piece → (Y → X) → Said (X × List Piece) → Result Y DescribeError → List Piece → Type 0
Reads source view Unsaid result rest = Unit
Reads source view Refused (Ok y) rest = ⊥
Reads source view Refused (Err e) rest = Unit
Reads source view (Gives x) (Ok y) rest = (view y ≡ x.0) × (rest ≡ x.1)
Reads source view (Gives x) (Err e) rest = IsRefusal source e

-- what stands behind this sign
abbrev pub behind_sign : List ℕ → List Piece → Option (List Piece)
behind_sign s [] = None
behind_sign s ((kind.Sign, t) ∷ rest) = if bytes_eq t s then Some rest else None
behind_sign s (_ ∷ rest) = None

-- what stands behind this word
abbrev pub behind_name : List ℕ → List Piece → Option (List Piece)
behind_name w [] = None
behind_name w ((kind.Word, t) ∷ rest) = if bytes_eq t w then Some rest else None
behind_name w (_ ∷ rest) = None

-- the word in front, and the rest
abbrev pub word_front : List Piece → Option (List ℕ × List Piece)
word_front ((kind.Word, c ∷ cs) ∷ rest) = Some (c ∷ cs, rest)
word_front _ = None

-- the number that digits write, if 64 bits have it
abbrev pub number_in : List ℕ → Option ℕ
number_in w = if all_ascii_digits w && (nat_lt 0 (length w) && nat_lt (digits_value 10 w) (2 ^ 64)) then Some (digits_value 10 w) else None

-- the number of a word, in front of whose digits a plus may stand
abbrev pub number_of : List ℕ → Option ℕ
number_of w = number_in (without_leading_plus w)

-- the number in front, and the rest
abbrev pub number_front : List Piece → Option (ℕ × List Piece)
number_front ts = option_and_then (λ w. option_map (λ n. (n, w.1)) (number_of w.0)) (word_front ts)

-- the text in front, if it is of the kind
abbrev pub front_text : Kind → List Piece → List ℕ
front_text kind.Word ((kind.Word, t) ∷ rest) = t
front_text kind.Sign ((kind.Sign, t) ∷ rest) = t
front_text kind.Lifetime ((kind.Lifetime, t) ∷ rest) = t
front_text kind.Literal ((kind.Literal, t) ∷ rest) = t
front_text kind.Note ((kind.Note, t) ∷ rest) = t
front_text _ _ = []

-- the tokens of a text, if they are known, or there was no memory
abbrev pub HasTokens : Option (List Piece) → Result (Vec Token) DescribeError → Type 0
HasTokens None result = Unit
HasTokens (Some all) (Ok tokens) = pieces tokens.items ≡ all
HasTokens (Some all) (Err e) = e ≡ OutOfMemory

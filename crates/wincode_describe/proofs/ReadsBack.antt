-- What is spelled is read back.
use Rattle.std.proofs.Common.{◌≡◌, ◌∙◌, refl, ℕ, zero, suc, ◌<◌, ◌^◌, Bool, true, false, List, [], ◌∷◌, length, Some, None, codes, decimal, arith, cond, bytes_eq, Option}
use Rattle.std.proofs.lemmas.Bool.{lt-ltb, le-ltb}
use Rattle.std.proofs.lemmas.Fmt.{digits_decimal, digits_value-decimal, decimal_nonempty}
use Rattle.std.proofs.lemmas.Str.Parse.{IsNumeralModel, not_in_digits, numerals_by_value, tells_all_ascii_digits, without_leading_plus_none}
use Rattle.std.specs.Str.{all_ascii_digits}
use Rattle.std.specs.Str.Parse.{digits_value, without_leading_plus}
use Rattle.wincode_describe.specs.Forms.{Form, Number, NotZero, Standard, Flag, Letter, Nothing, Words, Bytes, ByteBlock, Maybe, Either, Held, Many, Several, Pairs}
use Rattle.wincode_describe.specs.Forms.{Block, Group, Record, Both, Named, Choice, LastCase, OneCase}
use Rattle.wincode_describe.specs.Sources.{heads}
use Rattle.wincode_describe.specs.declared.tokens.Over.{Over}
use Rattle.wincode_describe.specs.declared.tokens.Over.TheVariants as over
use Rattle.wincode_describe.specs.Phrases.{Piece, Gives, on, number_of, number_front, word_front, behind_sign, behind_name}
use Rattle.wincode_describe.proofs.ReadSteps.{members_is, tuple_is}
use Rattle.wincode_describe.specs.Readers.{Readers, readers, no_more, type_by, list_form, array_form, greatest_of}
use Rattle.wincode_describe.specs.Spelled.{word, sign, spelled, Within, IsForm, IsType, AreFields, AreCases}
use Rattle.wincode_describe.specs.Written.{integer_name, nonzero_name, std_name}
use Rattle.wincode_describe.specs.declared.described.Integer.{Integer}
use Rattle.wincode_describe.specs.declared.described.Integer.TheVariants.{U8, U16, U32, U64, U128, Usize, I8, I16, I32, I64, I128, Isize}
use Rattle.wincode_describe.specs.declared.described.StdType.{StdType}
use Rattle.wincode_describe.specs.declared.described.StdType.TheVariants as std
use Rattle.wincode_describe.specs.declared.described.LengthScheme.{LengthScheme}
use Rattle.wincode_describe.specs.declared.described.LengthScheme.TheVariants.{Eight, Short}
use Rattle.wincode_describe.specs.declared.described.TagSize.TheVariants as tag

own : IsNumeralModel (λ ds. all_ascii_digits ds ≡ true) (digits_value 10)
own = numerals_by_value _ tells_all_ascii_digits

-- a number is written without a plus
plain_decimal : (n : ℕ) → n < 2 ^ 64 → without_leading_plus (decimal n) ≡ decimal n
plain_decimal n h = without_leading_plus_none (decimal n) (not_in_digits own (decimal n) 43 (digits_decimal own n h) (λ k. omega (arith, k.0)) 0 (decimal_nonempty n h))

-- a number is read back
number_back : (n : ℕ) → n < 2 ^ 64 → number_of (decimal n) ≡ Some n
number_back n h = rw (plain_decimal n h, digits_decimal own n h, lt-ltb 0 (length (decimal n)) (decimal_nonempty n h), digits_value-decimal own n h, lt-ltb n (2 ^ 64) h) refl

word_back : (w : List ℕ) (rest : List Piece) → 0 < length w → word_front (word w ∷ rest) ≡ Some (w, rest)
word_back [] rest h = absurd (omega arith)
word_back (c ∷ cs) rest h = refl

number_in_front : (n : ℕ) (rest : List Piece) → n < 2 ^ 64 → number_front (word (decimal n) ∷ rest) ≡ Some (n, rest)
number_in_front n rest h = rw (word_back (decimal n) rest (decimal_nonempty n h), number_back n h) refl

integer_back : (i : Integer) (source : List Piece) (below : Readers) (rest : List Piece)
    → (type_by source below (word (integer_name i) ∷ rest) ≡ Gives (Number i, rest)) × (behind_name (codes "str") (word (integer_name i) ∷ rest) ≡ None)
integer_back U8 source below rest = (refl, refl)
integer_back U16 source below rest = (refl, refl)
integer_back U32 source below rest = (refl, refl)
integer_back U64 source below rest = (refl, refl)
integer_back U128 source below rest = (refl, refl)
integer_back Usize source below rest = (refl, refl)
integer_back I8 source below rest = (refl, refl)
integer_back I16 source below rest = (refl, refl)
integer_back I32 source below rest = (refl, refl)
integer_back I64 source below rest = (refl, refl)
integer_back I128 source below rest = (refl, refl)
integer_back Isize source below rest = (refl, refl)

nonzero_back : (i : Integer) (source : List Piece) (below : Readers) (rest : List Piece)
    → (type_by source below (word (nonzero_name i) ∷ rest) ≡ Gives (NotZero i, rest)) × (behind_name (codes "str") (word (nonzero_name i) ∷ rest) ≡ None)
nonzero_back U8 source below rest = (refl, refl)
nonzero_back U16 source below rest = (refl, refl)
nonzero_back U32 source below rest = (refl, refl)
nonzero_back U64 source below rest = (refl, refl)
nonzero_back U128 source below rest = (refl, refl)
nonzero_back Usize source below rest = (refl, refl)
nonzero_back I8 source below rest = (refl, refl)
nonzero_back I16 source below rest = (refl, refl)
nonzero_back I32 source below rest = (refl, refl)
nonzero_back I64 source below rest = (refl, refl)
nonzero_back I128 source below rest = (refl, refl)
nonzero_back Isize source below rest = (refl, refl)

std_back : (k : StdType) (source : List Piece) (below : Readers) (rest : List Piece)
    → (type_by source below (word (std_name k) ∷ rest) ≡ Gives (Standard k, rest)) × (behind_name (codes "str") (word (std_name k) ∷ rest) ≡ None)
std_back std.F32 source below rest = (refl, refl)
std_back std.F64 source below rest = (refl, refl)
std_back std.Duration source below rest = (refl, refl)
std_back std.SystemTime source below rest = (refl, refl)
std_back std.Ipv4Addr source below rest = (refl, refl)
std_back std.Ipv6Addr source below rest = (refl, refl)
std_back std.SocketAddrV4 source below rest = (refl, refl)
std_back std.SocketAddrV6 source below rest = (refl, refl)

list_many : (s : LengthScheme) (d : Form) → (d ≡ Number U8 → ⊥) → list_form s d ≡ Many s d
list_many s (Number U8) h = absurd (h refl)
list_many s _ h = refl

array_many : (n : ℕ) (d : Form) → (d ≡ Number U8 → ⊥) → array_form n d ≡ Block n d
array_many n (Number U8) h = absurd (h refl)
array_many n _ h = refl

-- a form begins with no closing sign
begins_tuple : (f : Form) (rest : List Piece) → behind_sign (codes ")") (spelled f rest) ≡ None
begins_tuple (Bytes Eight) rest = refl
begins_tuple (Bytes Short) rest = refl
begins_tuple (Many Eight d) rest = refl
begins_tuple (Many Short d) rest = refl
begins_tuple (Both d e) rest = begins_tuple d (sign (codes ",") ∷ spelled e rest)
begins_tuple _ rest = refl

begins_braces : (f : Form) (rest : List Piece) → behind_sign (codes "}") (spelled f rest) ≡ None
begins_braces (Bytes Eight) rest = refl
begins_braces (Bytes Short) rest = refl
begins_braces (Many Eight d) rest = refl
begins_braces (Many Short d) rest = refl
begins_braces (Both d e) rest = begins_braces d (sign (codes ",") ∷ spelled e rest)
begins_braces _ rest = refl

-- a type begins with another word than `str`, or with none
begins_no_text : (f : Form) (n : ℕ) (rest : List Piece) → IsForm f false n → behind_name (codes "str") (spelled f rest) ≡ None
begins_no_text (Number i) n rest h = (integer_back i [] no_more rest).1
begins_no_text (NotZero i) n rest h = (nonzero_back i [] no_more rest).1
begins_no_text (Standard k) n rest h = (std_back k [] no_more rest).1
begins_no_text (Bytes Eight) n rest h = refl
begins_no_text (Bytes Short) n rest h = refl
begins_no_text (Many Eight d) n rest h = refl
begins_no_text (Many Short d) n rest h = refl
begins_no_text (Both d e) n rest h = absurd h
begins_no_text (Named s d) n rest h = absurd h
begins_no_text (LastCase t d) n rest h = absurd h
begins_no_text (OneCase t d e) n rest h = absurd h
begins_no_text _ n rest h = refl

-- each type takes a level
none_within : (f : Form) (b : Bool) → IsForm f b 0 → ⊥
none_within (Number i) b h = absurd (omega arith)
none_within (NotZero i) b h = absurd (omega arith)
none_within (Standard k) b h = absurd (omega arith)
none_within Flag b h = absurd (omega arith)
none_within Letter b h = absurd (omega arith)
none_within Nothing b h = absurd (omega arith)
none_within Words b h = absurd (omega arith)
none_within (Both d e) true h = h.1
none_within (Both d e) false h = h
none_within (Pairs (Both d e)) b h = h
none_within (Group (Both d e)) b h = h
none_within _ b h = h

-- no head stands in front of a name
no_pub : (b : Bool) (ts : List Piece) (k : Over → Option (List Piece)) → on (cond b None None) k (Some ts) ≡ Some ts
no_pub true ts k = refl
no_pub false ts k = refl

no_head : (s : List ℕ) (rest : List Piece) → heads over.Between (word s ∷ sign (codes ":") ∷ rest) ≡ Some (word s ∷ sign (codes ":") ∷ rest)
no_head s rest = no_pub (bytes_eq s (codes "pub")) (word s ∷ sign (codes ":") ∷ rest) (λ next. heads next (sign (codes ":") ∷ rest))

-- what is spelled is read back within so many levels
record Back (source : List Piece) (n : ℕ) : Type 0 where
  types : (f : Form) (rest : List Piece) → IsForm f false n → (readers source n).types (spelled f rest) ≡ Gives (f, rest)
  tuple : (d e : Form) (rest : List Piece) → IsForm d false n → Within n (λ k. IsForm e true k)
      → (readers source n).tuple (spelled d (sign (codes ",") ∷ spelled e (sign (codes ")") ∷ rest))) ≡ Gives (Group (Both d e), rest)
  members : (f : Form) (rest : List Piece) → IsForm f true n → (readers source n).members (spelled f (sign (codes ")") ∷ rest)) ≡ Gives (f, rest)
  fields : (f : Form) (rest : List Piece) → AreFields f n → (readers source n).fields (spelled f (sign (codes "}") ∷ rest)) ≡ Gives (f, rest)
  cases : (f : Form) (g : ℕ) (rest : List Piece) → AreCases f g n → (readers source n).cases g (spelled f (sign (codes "}") ∷ rest)) ≡ Gives (f, rest)

bytes_more : (source : List Piece) (s : LengthScheme) (n : ℕ) (rest : List Piece) → 0 < n → (readers source (suc n)).types (spelled (Bytes s) rest) ≡ Gives (Bytes s, rest)
unfolding readers
bytes_more source s zero rest h = absurd (omega arith)
bytes_more source Eight (suc n) rest h = refl
bytes_more source Short (suc n) rest h = refl

byte_block_more : (source : List Piece) (k n : ℕ) (rest : List Piece) → 0 < n → k < 2 ^ 64 → (readers source (suc n)).types (spelled (ByteBlock k) rest) ≡ Gives (ByteBlock k, rest)
unfolding readers
byte_block_more source k zero rest h f = absurd (omega arith)
byte_block_more source k (suc n) rest h f = rw (number_in_front k (sign (codes "]") ∷ rest) f) refl

types_more : (source : List Piece) (n : ℕ) → Back source n → (f : Form) (rest : List Piece) → IsForm f false (suc n) → (readers source (suc n)).types (spelled f rest) ≡ Gives (f, rest)
unfolding readers
types_more source n b (Number i) rest h = (integer_back i source (readers source n) rest).0
types_more source n b (NotZero i) rest h = (nonzero_back i source (readers source n) rest).0
types_more source n b (Standard k) rest h = (std_back k source (readers source n) rest).0
types_more source n b Flag rest h = refl
types_more source n b Letter rest h = refl
types_more source n b Nothing rest h = tuple_is source n (sign (codes ")") ∷ rest)
types_more source n b Words rest h = refl
types_more source n b (Bytes s) rest h = bytes_more source s n rest h
types_more source n b (ByteBlock k) rest h = byte_block_more source k n rest h.0 h.1
types_more source n b (Maybe d) rest h = rw (begins_no_text d n (sign (codes ">") ∷ rest) h, b.types d (sign (codes ">") ∷ rest) h) refl
types_more source n b (Either d e) rest h = rw (b.types d (sign (codes ",") ∷ spelled e (sign (codes ">") ∷ rest)) h.0, b.types e (sign (codes ">") ∷ rest) h.1) refl
types_more source n b (Held d) rest h = rw (begins_no_text d n (sign (codes ">") ∷ rest) h, b.types d (sign (codes ">") ∷ rest) h) refl
types_more source n b (Many Eight d) rest h = rw (
  begins_no_text d n (sign (codes ">") ∷ rest) h.0,
  b.types d (sign (codes ">") ∷ rest) h.0,
  list_many Eight d h.1,
) refl
types_more source n b (Many Short d) rest h = rw (b.types d (sign (codes ">") ∷ rest) h.0, list_many Short d h.1) refl
types_more source n b (Several d) rest h = rw (begins_no_text d n (sign (codes ">") ∷ rest) h, b.types d (sign (codes ">") ∷ rest) h) refl
types_more source n b (Pairs (Both d e)) rest h = rw (b.types d (sign (codes ",") ∷ spelled e (sign (codes ">") ∷ rest)) h.0, b.types e (sign (codes ">") ∷ rest) h.1)
    refl
types_more source n b (Block k d) rest h = rw (
  b.types d (sign (codes ";") ∷ word (decimal k) ∷ sign (codes "]") ∷ rest) h.1,
  number_in_front k (sign (codes "]") ∷ rest) h.0,
  array_many k d h.2,
) refl
types_more source n b (Group (Both d e)) rest h = b.tuple d e rest h.0 h.1
types_more source n b (Record d) rest h = rw (b.fields d rest h) refl
types_more source n b (Choice tag.U8 d) rest h = rw (b.cases d (greatest_of tag.U8) rest h) refl
types_more source n b (Choice tag.U16 d) rest h = rw (b.cases d (greatest_of tag.U16) rest h) refl
types_more source n b (Choice tag.U32 d) rest h = rw (b.cases d (greatest_of tag.U32) rest h) refl
types_more source n b (Choice tag.U64 d) rest h = rw (b.cases d (greatest_of tag.U64) rest h) refl
types_more source n b _ rest h = absurd h

tuple_more : (source : List Piece) (n : ℕ) → Back source n → (d e : Form) (rest : List Piece) → IsForm d false (suc n) → IsForm e true n
    → (readers source (suc n)).tuple (spelled d (sign (codes ",") ∷ spelled e (sign (codes ")") ∷ rest))) ≡ Gives (Group (Both d e), rest)
tuple_more source n b d e rest h k = tuple_is source (suc n) (spelled d (sign (codes ",") ∷ spelled e (sign (codes ")") ∷ rest)))
    ∙ rw (
      begins_tuple d (sign (codes ",") ∷ spelled e (sign (codes ")") ∷ rest)),
      types_more source n b d (sign (codes ",") ∷ spelled e (sign (codes ")") ∷ rest)) h,
      b.members e rest k,
    ) refl

last_member : (source : List Piece) (n : ℕ) → Back source n → (f : Form) (rest : List Piece) → IsForm f false (suc n) → (readers source (suc n)).members (spelled f (sign (codes ")") ∷ rest))
    ≡ Gives (f, rest)
last_member source n b f rest h = members_is source (suc n) (spelled f (sign (codes ")") ∷ rest)) ∙ rw (types_more source n b f (sign (codes ")") ∷ rest) h) refl

members_more : (source : List Piece) (n : ℕ) → Back source n → (f : Form) (rest : List Piece) → IsForm f true (suc n) → (readers source (suc n)).members (spelled f (sign (codes ")") ∷ rest))
    ≡ Gives (f, rest)
members_more source n b (Both d e) rest h = members_is source (suc n) (spelled d (sign (codes ",") ∷ spelled e (sign (codes ")") ∷ rest)))
    ∙ rw (types_more source n b d (sign (codes ",") ∷ spelled e (sign (codes ")") ∷ rest)) h.0, begins_tuple e (sign (codes ")") ∷ rest), b.members e rest h.1) refl
members_more source n b (Pairs (Both d e)) rest h = last_member source n b (Pairs (Both d e)) rest h
members_more source n b (Group (Both d e)) rest h = last_member source n b (Group (Both d e)) rest h
members_more source n b f rest h = last_member source n b f rest h

fields_more : (source : List Piece) (n : ℕ) → Back source n → (f : Form) (rest : List Piece) → AreFields f (suc n) → (readers source (suc n)).fields (spelled f (sign (codes "}") ∷ rest))
    ≡ Gives (f, rest)
unfolding readers
fields_more source n b (Named s d) rest h = rw (
  no_head s (spelled d (sign (codes "}") ∷ rest)),
  word_back s (sign (codes ":") ∷ spelled d (sign (codes "}") ∷ rest)) h.0.0,
  b.types d (sign (codes "}") ∷ rest) h.1,
)
    refl
fields_more source n b (Both (Named s d) e) rest h = rw (
  no_head s (spelled d (sign (codes ",") ∷ spelled e (sign (codes "}") ∷ rest))),
  word_back s (sign (codes ":") ∷ spelled d (sign (codes ",") ∷ spelled e (sign (codes "}") ∷ rest))) h.0.0,
  b.types d (sign (codes ",") ∷ spelled e (sign (codes "}") ∷ rest)) h.1,
  begins_braces e (sign (codes "}") ∷ rest),
  b.fields e rest h.2,
) refl
fields_more source n b _ rest h = absurd h

cases_more : (source : List Piece) (n : ℕ) → Back source n → (f : Form) (g : ℕ) (rest : List Piece) → AreCases f g (suc n) → (readers source (suc n)).cases g (spelled f (sign (codes "}") ∷ rest))
    ≡ Gives (f, rest)
unfolding readers
cases_more source n b (LastCase t d) g rest h = rw (
  number_in_front t (sign (codes ":") ∷ spelled d (sign (codes "}") ∷ rest)) h.1,
  le-ltb g t h.0,
  b.types d (sign (codes "}") ∷ rest) h.2,
) refl
cases_more source n b (OneCase t d e) g rest h = rw (
  number_in_front t (sign (codes ":") ∷ spelled d (sign (codes ",") ∷ spelled e (sign (codes "}") ∷ rest))) h.1,
  le-ltb g t h.0,
  b.types d (sign (codes ",") ∷ spelled e (sign (codes "}") ∷ rest)) h.2,
  begins_braces e (sign (codes "}") ∷ rest),
  b.cases e g rest h.3,
  h.4,
) refl
cases_more source n b _ g rest h = absurd h

no_fields : (f : Form) → AreFields f 0 → ⊥
no_fields (Named s d) h = h
no_fields (Both (Named s d) e) h = h
no_fields _ h = h

no_cases : (f : Form) (g : ℕ) → AreCases f g 0 → ⊥
no_cases (LastCase t d) g h = h
no_cases (OneCase t d e) g h = h
no_cases _ g h = h

back : (source : List Piece) (n : ℕ) → Back source n
back source zero = record {
  types = λ f rest h. absurd (none_within f false h);
  tuple = λ d e rest h k. absurd k;
  members = λ f rest h. absurd (none_within f true h);
  fields = λ f rest h. absurd (no_fields f h);
  cases = λ f g rest h. absurd (no_cases f g h);
}
back source (suc n) = record {
  types = types_more source n (back source n);
  tuple = tuple_more source n (back source n);
  members = members_more source n (back source n);
  fields = fields_more source n (back source n);
  cases = cases_more source n (back source n);
}

pub type_back : (source : List Piece) (f : Form) (n : ℕ) (rest : List Piece) → IsType n f → (readers source n).types (spelled f rest) ≡ Gives (f, rest)
type_back source f n rest h = let b = back source n in b.types f rest h

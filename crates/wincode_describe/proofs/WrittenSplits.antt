-- What is written splits as it is spelled.
use Rattle.std.proofs.Common.{◌≡◌, ◌∙◌, ap, subst, refl, ℕ, zero, suc, ◌<◌, ◌^◌, Bool, true, false, ◌&&◌, nat_lt, slice_index, IsAscii, chars, Result, Ok, Err, None}
use Rattle.std.proofs.Common.{List, [], ◌∷◌, ◌++◌, length, Option, Some, codes, decimal, arith}
use Rattle.std.proofs.lemmas.Fmt.{digits_decimal, decimal_nonempty}
use Rattle.std.proofs.lemmas.Bool.{lt-ltb, ltb-true}
use Rattle.std.proofs.lemmas.List.{append_assoc}
use Rattle.std.proofs.lemmas.Str.{chars-IsAscii}
use Rattle.std.proofs.lemmas.Str.Parse.{IsNumeralModel, numerals_by_value, tells_all_ascii_digits}
use Rattle.std.specs.Char.{encode_utf8}
use Rattle.std.specs.Str.{all_ascii_digits}
use Rattle.std.specs.Str.Parse.{digits_value}
use Rattle.wincode_derive_text.specs.Splits.{Splits, all_of_word, of_word, tokens_from, tokens_in}
use Rattle.wincode_derive_text.specs.declared.tokens.Token.{Token}
use Rattle.std.specs.Global.{Vec}
use Rattle.wincode_derive_text.proofs.SplitLaws.{and_left, and_right, ascii_of_word, ends_words, word_before, digits_of_word}
use Rattle.wincode_describe.proofs.ReadsBack.{type_back}
use Rattle.wincode_describe.specs.Forms.{Form, seen, Number, NotZero, Standard, Flag, Letter, Nothing, Words, Bytes, ByteBlock, Maybe, Either, Held, Many, Several}
use Rattle.wincode_describe.specs.Forms.{Pairs, Block, Group, Record, Both, Named, Choice, LastCase, OneCase}
use Rattle.wincode_describe.specs.Phrases.{Piece, Said, Unsaid, Refused, Gives, and_then, known, pieces}
use Rattle.wincode_describe.specs.Readers.{Makes, Parses, IsKnownAs, ended, greatest_of, whole}
use Rattle.wincode_describe.specs.Spelled.{word, sign, spelled, IsForm, IsType, AreFields, AreCases, IsName}
use Rattle.wincode_describe.specs.Written.{written, integer_name, nonzero_name, std_name}
use Rattle.wincode_describe.specs.declared.error.DescribeError.{DescribeError}
use Rattle.wincode_describe.specs.declared.described.Described.{Described}
use Rattle.wincode_describe.specs.declared.described.Integer.{Integer}
use Rattle.wincode_describe.specs.declared.described.Integer.TheVariants.{U8, U16, U32, U64, U128, Usize, I8, I16, I32, I64, I128, Isize}
use Rattle.wincode_describe.specs.declared.described.StdType.{StdType}
use Rattle.wincode_describe.specs.declared.described.StdType.TheVariants as std
use Rattle.wincode_describe.specs.declared.described.LengthScheme.TheVariants.{Eight, Short}
use Rattle.wincode_describe.specs.declared.described.TagSize.TheVariants as tag

-- names are words, and numbers fit
abbrev CanSplit : Form → Type 0
CanSplit (ByteBlock n) = n < 2 ^ 64
CanSplit (Maybe d) = CanSplit d
CanSplit (Either d e) = CanSplit d × CanSplit e
CanSplit (Held d) = CanSplit d
CanSplit (Many s d) = CanSplit d
CanSplit (Several d) = CanSplit d
CanSplit (Pairs d) = CanSplit d
CanSplit (Block n d) = (n < 2 ^ 64) × CanSplit d
CanSplit (Group d) = CanSplit d
CanSplit (Record d) = CanSplit d
CanSplit (Both d e) = CanSplit d × CanSplit e
CanSplit (Named s d) = IsName s × CanSplit d
CanSplit (Choice k d) = CanSplit d
CanSplit (LastCase t d) = (t < 2 ^ 64) × CanSplit d
CanSplit (OneCase t d e) = (t < 2 ^ 64) × CanSplit d × CanSplit e
CanSplit _ = Unit {0}

own : IsNumeralModel (λ ds. all_ascii_digits ds ≡ true) (digits_value 10)
own = numerals_by_value _ tells_all_ascii_digits

-- a number in front of what is left
number_before : (n : ℕ) (c : ℕ) (cs : List ℕ) (ts : List Piece) → n < 2 ^ 64 → ends_words c ≡ true → tokens_from (c ∷ cs) ≡ Some ts
    → tokens_from (decimal n ++ (c ∷ cs)) ≡ Some (word (decimal n) ∷ ts)
number_before n c cs ts h o e = word_before (decimal n) c cs ts (decimal_nonempty n h) (digits_of_word (decimal n) (digits_decimal own n h)) o e

integer_some : (i : Integer) → 0 < length (integer_name i)
integer_some U8 = omega arith
integer_some U16 = omega arith
integer_some U32 = omega arith
integer_some U64 = omega arith
integer_some U128 = omega arith
integer_some Usize = omega arith
integer_some I8 = omega arith
integer_some I16 = omega arith
integer_some I32 = omega arith
integer_some I64 = omega arith
integer_some I128 = omega arith
integer_some Isize = omega arith

integer_word : (i : Integer) → all_of_word (integer_name i) ≡ true
integer_word U8 = refl
integer_word U16 = refl
integer_word U32 = refl
integer_word U64 = refl
integer_word U128 = refl
integer_word Usize = refl
integer_word I8 = refl
integer_word I16 = refl
integer_word I32 = refl
integer_word I64 = refl
integer_word I128 = refl
integer_word Isize = refl

nonzero_some : (i : Integer) → 0 < length (nonzero_name i)
nonzero_some U8 = omega arith
nonzero_some U16 = omega arith
nonzero_some U32 = omega arith
nonzero_some U64 = omega arith
nonzero_some U128 = omega arith
nonzero_some Usize = omega arith
nonzero_some I8 = omega arith
nonzero_some I16 = omega arith
nonzero_some I32 = omega arith
nonzero_some I64 = omega arith
nonzero_some I128 = omega arith
nonzero_some Isize = omega arith

nonzero_word : (i : Integer) → all_of_word (nonzero_name i) ≡ true
nonzero_word U8 = refl
nonzero_word U16 = refl
nonzero_word U32 = refl
nonzero_word U64 = refl
nonzero_word U128 = refl
nonzero_word Usize = refl
nonzero_word I8 = refl
nonzero_word I16 = refl
nonzero_word I32 = refl
nonzero_word I64 = refl
nonzero_word I128 = refl
nonzero_word Isize = refl

std_some : (k : StdType) → 0 < length (std_name k)
std_some std.F32 = omega arith
std_some std.F64 = omega arith
std_some std.Duration = omega arith
std_some std.SystemTime = omega arith
std_some std.Ipv4Addr = omega arith
std_some std.Ipv6Addr = omega arith
std_some std.SocketAddrV4 = omega arith
std_some std.SocketAddrV6 = omega arith

std_word : (k : StdType) → all_of_word (std_name k) ≡ true
std_word std.F32 = refl
std_word std.F64 = refl
std_word std.Duration = refl
std_word std.SystemTime = refl
std_word std.Ipv4Addr = refl
std_word std.Ipv6Addr = refl
std_word std.SocketAddrV4 = refl
std_word std.SocketAddrV6 = refl

-- a comma, a colon and a semicolon, each with a space behind it
comma : (cs : List ℕ) (ts : List Piece) → tokens_from cs ≡ Some ts → tokens_from (codes ", " ++ cs) ≡ Some (sign (codes ",") ∷ ts)
unfolding encode_utf8
comma cs ts h = rw h refl

colon : (cs : List ℕ) (ts : List Piece) → tokens_from cs ≡ Some ts → tokens_from (codes ": " ++ cs) ≡ Some (sign (codes ":") ∷ ts)
unfolding encode_utf8
colon cs ts h = rw h refl

closed : (cs : List ℕ) (ts : List Piece) → tokens_from cs ≡ Some ts → tokens_from (codes ">" ++ cs) ≡ Some (sign (codes ">") ∷ ts)
unfolding encode_utf8
closed cs ts h = rw h refl

bracket : (cs : List ℕ) (ts : List Piece) → tokens_from cs ≡ Some ts → tokens_from (codes "]" ++ cs) ≡ Some (sign (codes "]") ∷ ts)
unfolding encode_utf8
bracket cs ts h = rw h refl

semicolon : (cs : List ℕ) (ts : List Piece) → tokens_from cs ≡ Some ts → tokens_from (codes "; " ++ cs) ≡ Some (sign (codes ";") ∷ ts)
unfolding encode_utf8
semicolon cs ts h = rw h refl

tuple_end : (cs : List ℕ) (ts : List Piece) → tokens_from cs ≡ Some ts → tokens_from (codes ")" ++ cs) ≡ Some (sign (codes ")") ∷ ts)
unfolding encode_utf8
tuple_end cs ts h = rw h refl

braces_end : (cs : List ℕ) (ts : List Piece) → tokens_from cs ≡ Some ts → tokens_from (codes " }" ++ cs) ≡ Some (sign (codes "}") ∷ ts)
unfolding encode_utf8
braces_end cs ts h = rw h refl

-- What is written, in front of a character that ends a word, splits as it is spelled, in front of what that splits as.
pub splits_as : (f : Form) (c : ℕ) (cs : List ℕ) (ts : List Piece) → CanSplit f → ends_words c ≡ true → tokens_from (c ∷ cs) ≡ Some ts
    → tokens_from (written f ++ (c ∷ cs)) ≡ Some (spelled f ts)
unfolding encode_utf8
splits_as (Number i) c cs ts k o h = word_before (integer_name i) c cs ts (integer_some i) (integer_word i) o h
splits_as (NotZero i) c cs ts k o h = word_before (nonzero_name i) c cs ts (nonzero_some i) (nonzero_word i) o h
splits_as (Standard s) c cs ts k o h = word_before (std_name s) c cs ts (std_some s) (std_word s) o h
splits_as Flag c cs ts k o h = word_before (codes "bool") c cs ts (omega arith) refl o h
splits_as Letter c cs ts k o h = word_before (codes "char") c cs ts (omega arith) refl o h
splits_as Nothing c cs ts k o h = rw h refl
splits_as Words c cs ts k o h = word_before (codes "String") c cs ts (omega arith) refl o h
splits_as (Bytes Eight) c cs ts k o h = rw h refl
splits_as (Bytes Short) c cs ts k o h = rw h refl
splits_as (ByteBlock n) c cs ts k o h = rw (append_assoc (decimal n) (codes "]") (c ∷ cs), number_before n 93 (c ∷ cs) _ k refl (bracket (c ∷ cs) ts h)) refl
splits_as (Maybe d) c cs ts k o h = rw (append_assoc (written d) (codes ">") (c ∷ cs), splits_as d 62 (c ∷ cs) _ k refl (closed (c ∷ cs) ts h)) refl
splits_as (Either d e) c cs ts k o h =
    let second = splits_as e 62 (c ∷ cs) _ k.1 refl (closed (c ∷ cs) ts h) in
    let first = splits_as d 44 (32 ∷ (written e ++ (62 ∷ c ∷ cs))) _ k.0 refl (comma (written e ++ (62 ∷ c ∷ cs)) _ second) in
    rw (append_assoc (written d) (codes ", " ++ (written e ++ codes ">")) (c ∷ cs), append_assoc (written e) (codes ">") (c ∷ cs), first) refl
splits_as (Held d) c cs ts k o h = rw (append_assoc (written d) (codes ">") (c ∷ cs), splits_as d 62 (c ∷ cs) _ k refl (closed (c ∷ cs) ts h)) refl
splits_as (Many Eight d) c cs ts k o h = rw (append_assoc (written d) (codes ">") (c ∷ cs), splits_as d 62 (c ∷ cs) _ k refl (closed (c ∷ cs) ts h)) refl
splits_as (Many Short d) c cs ts k o h = rw (append_assoc (written d) (codes ">") (c ∷ cs), splits_as d 62 (c ∷ cs) _ k refl (closed (c ∷ cs) ts h)) refl
splits_as (Several d) c cs ts k o h = rw (append_assoc (written d) (codes ">") (c ∷ cs), splits_as d 62 (c ∷ cs) _ k refl (closed (c ∷ cs) ts h)) refl
splits_as (Pairs d) c cs ts k o h = rw (append_assoc (written d) (codes ">") (c ∷ cs), splits_as d 62 (c ∷ cs) _ k refl (closed (c ∷ cs) ts h)) refl
splits_as (Block n d) c cs ts k o h =
    let size = number_before n 93 (c ∷ cs) _ k.0 refl (bracket (c ∷ cs) ts h) in
    let first = splits_as d 59 (32 ∷ (decimal n ++ (93 ∷ c ∷ cs))) _ k.1 refl (semicolon (decimal n ++ (93 ∷ c ∷ cs)) _ size) in
    rw (append_assoc (written d) (codes "; " ++ (decimal n ++ codes "]")) (c ∷ cs), append_assoc (decimal n) (codes "]") (c ∷ cs), first) refl
splits_as (Group d) c cs ts k o h = rw (append_assoc (written d) (codes ")") (c ∷ cs), splits_as d 41 (c ∷ cs) _ k refl (tuple_end (c ∷ cs) ts h)) refl
splits_as (Record d) c cs ts k o h = rw (append_assoc (written d) (codes " }") (c ∷ cs), splits_as d 32 (125 ∷ c ∷ cs) _ k refl (braces_end (c ∷ cs) ts h)) refl
splits_as (Both d e) c cs ts k o h =
    let second = splits_as e c cs ts k.1 o h in
    rw (append_assoc (written d) (codes ", " ++ written e) (c ∷ cs))
    (splits_as d 44 (32 ∷ (written e ++ (c ∷ cs))) _ k.0 refl (comma (written e ++ (c ∷ cs)) _ second))
splits_as (Named s d) c cs ts k o h =
    let content = splits_as d c cs ts k.1 o h in
    rw (append_assoc s (codes ": " ++ written d) (c ∷ cs)) (word_before s 58 (32 ∷ (written d ++ (c ∷ cs))) _ k.0.0 k.0.1 refl
    (colon (written d ++ (c ∷ cs)) _ content))
splits_as (Choice tag.U8 d) c cs ts k o h = rw (
  append_assoc (written d) (codes " }") (c ∷ cs),
  splits_as d 32 (125 ∷ c ∷ cs) _ k refl (braces_end (c ∷ cs) ts h),
) refl
splits_as (Choice tag.U16 d) c cs ts k o h = rw (
  append_assoc (written d) (codes " }") (c ∷ cs),
  splits_as d 32 (125 ∷ c ∷ cs) _ k refl (braces_end (c ∷ cs) ts h),
) refl
splits_as (Choice tag.U32 d) c cs ts k o h = rw (
  append_assoc (written d) (codes " }") (c ∷ cs),
  splits_as d 32 (125 ∷ c ∷ cs) _ k refl (braces_end (c ∷ cs) ts h),
) refl
splits_as (Choice tag.U64 d) c cs ts k o h = rw (
  append_assoc (written d) (codes " }") (c ∷ cs),
  splits_as d 32 (125 ∷ c ∷ cs) _ k refl (braces_end (c ∷ cs) ts h),
) refl
splits_as (LastCase t d) c cs ts k o h =
    let content = splits_as d c cs ts k.1 o h in
    rw (append_assoc (decimal t) (codes ": " ++ written d) (c ∷ cs))
    (number_before t 58 (32 ∷ (written d ++ (c ∷ cs))) _ k.0 refl (colon (written d ++ (c ∷ cs)) _ content))
splits_as (OneCase t d e) c cs ts k o h =
    let others = splits_as e c cs ts k.2 o h in
    let content = splits_as d 44 (32 ∷ (written e ++ (c ∷ cs))) _ k.1 refl (comma (written e ++ (c ∷ cs)) _ others) in
    rw (
      append_assoc (decimal t) (codes ": " ++ (written d ++ (codes ", " ++ written e))) (c ∷ cs),
      append_assoc (written d) (codes ", " ++ written e) (c ∷ cs),
    )
    (number_before t 58 (32 ∷ (written d ++ (44 ∷ 32 ∷ (written e ++ (c ∷ cs))))) _ k.0 refl
    (colon (written d ++ (44 ∷ 32 ∷ (written e ++ (c ∷ cs)))) _ content))

mutual
  -- a described type can be split
  form_splits : (f : Form) (b : Bool) (n : ℕ) → IsForm f b n → CanSplit f
  form_splits (Both d e) true (suc n) h = (form_splits d false (suc n) h.0, form_splits e true n h.1)
  form_splits (Both d e) true zero h = absurd h.1
  form_splits (Both d e) false n h = absurd h
  form_splits (Number i) b n h = tt
  form_splits (NotZero i) b n h = tt
  form_splits (Standard k) b n h = tt
  form_splits Flag b n h = tt
  form_splits Letter b n h = tt
  form_splits Nothing b n h = tt
  form_splits Words b n h = tt
  form_splits (Bytes s) b n h = tt
  form_splits (ByteBlock k) b (suc n) h = h.1
  form_splits (Maybe d) b (suc n) h = form_splits d false n h
  form_splits (Either d e) b (suc n) h = (form_splits d false n h.0, form_splits e false n h.1)
  form_splits (Held d) b (suc n) h = form_splits d false n h
  form_splits (Many s d) b (suc n) h = form_splits d false n h.0
  form_splits (Several d) b (suc n) h = form_splits d false n h
  form_splits (Pairs (Both d e)) b (suc n) h = (form_splits d false n h.0, form_splits e false n h.1)
  form_splits (Block k d) b (suc n) h = (h.0, form_splits d false n h.1)
  form_splits (Group (Both d e)) b (suc (suc n)) h = (form_splits d false (suc n) h.0, form_splits e true n h.1)
  form_splits (Group (Both d e)) b (suc zero) h = absurd h.1
  form_splits (Record d) b (suc n) h = fields_split d n h
  form_splits (Choice k d) b (suc n) h = cases_split d (greatest_of k) n h
  form_splits _ b n h = absurd h

  fields_split : (f : Form) (n : ℕ) → AreFields f n → CanSplit f
  fields_split (Both (Named s d) e) (suc n) h = ((h.0, form_splits d false n h.1), fields_split e n h.2)
  fields_split (Named s d) (suc n) h = (h.0, form_splits d false n h.1)
  fields_split _ n h = absurd h

  cases_split : (f : Form) (g n : ℕ) → AreCases f g n → CanSplit f
  cases_split (LastCase t d) g (suc n) h = (h.1, form_splits d false n h.2)
  cases_split (OneCase t d e) g (suc n) h = (h.1, form_splits d false n h.2, cases_split e g n h.3)
  cases_split _ g n h = absurd h

pub type_splits : (n : ℕ) (f : Form) → IsType n f → CanSplit f
type_splits n f h = form_splits f false n h

-- characters below 128 alone
abbrev all_ascii : List ℕ → Bool
all_ascii [] = true
all_ascii (c ∷ cs) = nat_lt c 128 && all_ascii cs

and_both : (a b : Bool) → a ≡ true → b ≡ true → (a && b) ≡ true
and_both true b e f = f
and_both false b e f = absurd (cc)

ascii_append : (xs ys : List ℕ) → all_ascii xs ≡ true → all_ascii ys ≡ true → all_ascii (xs ++ ys) ≡ true
ascii_append [] ys e f = f
ascii_append (x ∷ xs) ys e f = and_both (nat_lt x 128) (all_ascii (xs ++ ys)) (and_left (nat_lt x 128) (all_ascii xs) e)
    (ascii_append xs ys (and_right (nat_lt x 128) (all_ascii xs) e) f)

word_ascii : (w : List ℕ) → all_of_word w ≡ true → all_ascii w ≡ true
word_ascii [] h = refl
word_ascii (c ∷ cs) h = and_both (nat_lt c 128) (all_ascii cs) (lt-ltb c 128 (ascii_of_word c (and_left (of_word c) (all_of_word cs) h)))
    (word_ascii cs (and_right (of_word c) (all_of_word cs) h))

number_ascii : (n : ℕ) → n < 2 ^ 64 → all_ascii (decimal n) ≡ true
number_ascii n h = word_ascii (decimal n) (digits_of_word (decimal n) (digits_decimal own n h))

written_ascii : (f : Form) → CanSplit f → all_ascii (written f) ≡ true
written_ascii (Number i) k = word_ascii (integer_name i) (integer_word i)
written_ascii (NotZero i) k = word_ascii (nonzero_name i) (nonzero_word i)
written_ascii (Standard s) k = word_ascii (std_name s) (std_word s)
written_ascii (Bytes Eight) k = refl
written_ascii (Bytes Short) k = refl
written_ascii (ByteBlock n) k = ascii_append (decimal n) (codes "]") (number_ascii n k) refl
written_ascii (Maybe d) k = ascii_append (written d) (codes ">") (written_ascii d k) refl
written_ascii (Either d e) k = ascii_append (written d) (codes ", " ++ (written e ++ codes ">")) (written_ascii d k.0)
    (ascii_append (written e) (codes ">") (written_ascii e k.1) refl)
written_ascii (Held d) k = ascii_append (written d) (codes ">") (written_ascii d k) refl
written_ascii (Many Eight d) k = ascii_append (written d) (codes ">") (written_ascii d k) refl
written_ascii (Many Short d) k = ascii_append (written d) (codes ">") (written_ascii d k) refl
written_ascii (Several d) k = ascii_append (written d) (codes ">") (written_ascii d k) refl
written_ascii (Pairs d) k = ascii_append (written d) (codes ">") (written_ascii d k) refl
written_ascii (Block n d) k = ascii_append (written d) (codes "; " ++ (decimal n ++ codes "]")) (written_ascii d k.1) (ascii_append (decimal n) (codes "]")
    (number_ascii n k.0) refl)
written_ascii (Group d) k = ascii_append (written d) (codes ")") (written_ascii d k) refl
written_ascii (Record d) k = ascii_append (written d) (codes " }") (written_ascii d k) refl
written_ascii (Both d e) k = ascii_append (written d) (codes ", " ++ written e) (written_ascii d k.0) (written_ascii e k.1)
written_ascii (Named s d) k = ascii_append s (codes ": " ++ written d) (word_ascii s k.0.1) (written_ascii d k.1)
written_ascii (Choice tag.U8 d) k = ascii_append (written d) (codes " }") (written_ascii d k) refl
written_ascii (Choice tag.U16 d) k = ascii_append (written d) (codes " }") (written_ascii d k) refl
written_ascii (Choice tag.U32 d) k = ascii_append (written d) (codes " }") (written_ascii d k) refl
written_ascii (Choice tag.U64 d) k = ascii_append (written d) (codes " }") (written_ascii d k) refl
written_ascii (LastCase t d) k = ascii_append (decimal t) (codes ": " ++ written d) (number_ascii t k.0) (written_ascii d k.1)
written_ascii (OneCase t d e) k = ascii_append (decimal t) (codes ": " ++ (written d ++ (codes ", " ++ written e))) (number_ascii t k.0)
    (ascii_append (written d) (codes ", " ++ written e) (written_ascii d k.1) (written_ascii e k.2))
written_ascii _ k = refl

ascii_at : (cs : List ℕ) → all_ascii cs ≡ true → IsAscii cs
ascii_at [] h = λ i. omega arith
ascii_at (c ∷ cs) h = λ i. elim i as (λ i. slice_index (c ∷ cs) i < 128) [
  | zero ↦ ltb-true c 128 (and_left (nat_lt c 128) (all_ascii cs) h)
  | suc j ↦ let others = ascii_at cs (and_right (nat_lt c 128) (all_ascii cs) h) in others j
]

-- The text of a described type is parsed as that type, whatever a source declares.
pub parses_back : (source : List Piece) (text : List ℕ) (n : ℕ) (f : Form) (r : Result Described DescribeError)
    → Parses source (and_then (known (tokens_in (chars text))) (whole source n)) r → IsType n f → text ≡ written f → Parses source (Gives f) r
parses_back source text n f r parsed is_type same =
    let k = type_splits n f is_type in
    let plain : chars text ≡ written f = ap chars same ∙ chars-IsAscii (written f) (ascii_at (written f) (written_ascii f k)) in
    let split : tokens_in (chars text) ≡ Some (spelled f []) = ap tokens_in plain ∙ splits_as f 10 [] [] k refl refl in
    let all : and_then (known (tokens_in (chars text))) (whole source n) ≡ Gives f =
    ap (λ o. and_then (known o) (whole source n)) split ∙ ap (λ o. and_then o ended) (type_back source f n [] is_type) in
    let P : Said Form → Type 0 = λ o. Parses source o r in
    subst P all parsed

-- so, without one
pub made_back : (f : Form) (r : Result Described DescribeError) → Parses [] (Gives f) r → Makes seen f r
made_back f (Ok d) h = h
made_back f (Err e) h = h

-- and what is parsed by a source is what is known of it
pub known_as : (source : List Piece) (o : Said Form) (d : Described) → Parses source o (Ok d) → IsKnownAs o (seen d)
known_as source Unsaid d h = tt
known_as source Refused d h = h
known_as source (Gives f) d h = h

pub parsed_known : (o : Option (List Piece)) (tokens : Vec Token) (t : Option (List Piece)) (n : ℕ) (d : Described) → Splits o (Ok tokens)
    → Parses (pieces tokens.items) (and_then (known t) (whole (pieces tokens.items) n)) (Ok d)
    → IsKnownAs (and_then (known o) (λ s. and_then (known t) (whole s n))) (seen d)
parsed_known None tokens t n d h parsed = tt
parsed_known (Some s) tokens t n d h parsed = known_as s (and_then (known t) (whole s n)) d (rw h at parsed)

-- The grammar of a described type.
use lib.Ieee.{binary32, binary64}
use Rattle.std.specs.Prelude.{◌≡◌, ◌+◌, ◌*◌, ◌^◌, pos, ℕ, ℤ, List, [], ◌∷◌, ◌++◌, length, true, false, Option, Some, None, Result, Ok, Err}
use Rattle.std.specs.Int.{w8, w16, w32, w64, w128}
use Rattle.wincode_io.specs.Numbers.{worth}
use Rattle.wincode_base.specs.Arrays.{array_read}
use Rattle.wincode_base.specs.Boxed.{boxed_read}
use Rattle.wincode_base.specs.Grammar.{ReadGrammar}
use Rattle.wincode_base.specs.InWindow.{windowed_read}
use Rattle.wincode_base.specs.Leaves.{number_read, signed_read, bool_read, unit_read}
use Rattle.wincode_base.specs.Lengths.{Scheme, bincode, preallocation_limit}
use Rattle.wincode_base.specs.Lists.{list_read}
use Rattle.wincode_base.specs.Made.{made_read, IsNot, AreBits, AreTime, IsSame, is_zero, is_overflow}
use Rattle.wincode_base.specs.Pairs.{pair_read}
use Rattle.wincode_base.specs.Short.{short_scheme}
use Rattle.wincode_base.specs.Strings.{char_read, str_read}
use Rattle.wincode_base.specs.Tags.{option_read, result_read}
use Rattle.wincode_describe.specs.Parts.{Part, Natural, Signed, Std, Socket, Flag, Character, Text, Bytes, Length, Tag, Nothing}
use Rattle.wincode_describe.specs.ShownGrammars.{shown_read, joined, chosen_read, CaseGrammars, one_case, or_case}
use Rattle.wincode_describe.specs.declared.described.Integer.{Integer}
use Rattle.wincode_describe.specs.declared.described.Integer.TheVariants.{U8, U16, U32, U64, U128, Usize, I8, I16, I32, I64, I128, Isize}
use Rattle.wincode_describe.specs.declared.described.StdType.{StdType}
use Rattle.wincode_describe.specs.declared.described.StdType.TheVariants.{F32, F64, Duration, SystemTime, Ipv4Addr, Ipv6Addr, SocketAddrV4, SocketAddrV6}
use Rattle.wincode_describe.specs.declared.described.LengthScheme.{LengthScheme}
use Rattle.wincode_describe.specs.declared.described.LengthScheme.TheVariants.{Eight, Short}
use Rattle.wincode_describe.specs.declared.described.TagSize.{TagSize}
use Rattle.wincode_describe.specs.declared.described.TagSize.TheVariants as tag
use Rattle.wincode_describe.specs.declared.described.Described.{Described}
use Rattle.wincode_describe.specs.declared.described.Described.TheVariants as type
use Rattle.wincode_describe.specs.declared.described.Cases.{Cases}
use Rattle.wincode_describe.specs.declared.described.Cases.TheVariants.{Last', Case'}

-- an integer is one part
abbrev pub natural_shown : Integer → ℕ → List Part
natural_shown i n = Natural i n ∷ []

-- so of one with a sign
abbrev pub signed_shown : Integer → ℤ → List Part
signed_shown i z = Signed i z ∷ []

-- an integer is read as its schema reads it
abbrev pub integer_read : Integer → ReadGrammar (List Part)
integer_read U8 = shown_read (natural_shown U8) (number_read 1 true)
integer_read U16 = shown_read (natural_shown U16) (number_read 2 true)
integer_read U32 = shown_read (natural_shown U32) (number_read 4 true)
integer_read U64 = shown_read (natural_shown U64) (number_read 8 true)
integer_read U128 = shown_read (natural_shown U128) (number_read 16 true)
integer_read Usize = shown_read (natural_shown Usize) (number_read 8 false)
integer_read I8 = shown_read (signed_shown I8) (signed_read w8 true)
integer_read I16 = shown_read (signed_shown I16) (signed_read w16 true)
integer_read I32 = shown_read (signed_shown I32) (signed_read w32 true)
integer_read I64 = shown_read (signed_shown I64) (signed_read w64 true)
integer_read I128 = shown_read (signed_shown I128) (signed_read w128 true)
integer_read Isize = shown_read (signed_shown Isize) (signed_read w64 false)

-- an integer's 0
abbrev pub zero_shown : Integer → List Part
zero_shown U8 = natural_shown U8 0
zero_shown U16 = natural_shown U16 0
zero_shown U32 = natural_shown U32 0
zero_shown U64 = natural_shown U64 0
zero_shown U128 = natural_shown U128 0
zero_shown Usize = natural_shown Usize 0
zero_shown I8 = signed_shown I8 (pos 0)
zero_shown I16 = signed_shown I16 (pos 0)
zero_shown I32 = signed_shown I32 (pos 0)
zero_shown I64 = signed_shown I64 (pos 0)
zero_shown I128 = signed_shown I128 (pos 0)
zero_shown Isize = signed_shown Isize (pos 0)

-- an integer that isn't 0
abbrev pub nonzero_read : Integer → ReadGrammar (List Part)
nonzero_read i = made_read (λ v. v) (IsNot (zero_shown i)) is_zero (integer_read i)

-- What makes something, as it was read: of a float the bits, of which several may be one value, and of a time nanoseconds
-- that may be past a second.
abbrev pub AsRead : {X : Type 0} → (X → X → Type 0) → X → X → Type 0
AsRead {X} made p q = (q ≡ p) × ((r : X) × made p r)

-- a float is its bits
abbrev pub bits_shown : StdType → ℕ → List Part
bits_shown k n = Std k n ∷ []

-- a time is its seconds and its nanoseconds
abbrev pub time_shown : StdType → ℕ × ℕ → List Part
time_shown k v = Std k (v.0 + 256 ^ 8 * v.1) ∷ []

-- an address is its octets
abbrev pub octets_shown : StdType → List ℕ → List Part
octets_shown k v = Std k (worth v) ∷ []

-- a time whose seconds are below the limit
abbrev pub time_read : StdType → ℕ → ReadGrammar (List Part)
time_read k limit = shown_read (time_shown k)
    (made_read (λ v. v) (AsRead (AreTime limit)) is_overflow (windowed_read (pair_read (number_read 8 true) (number_read 4 true))))

-- an address of so many octets
abbrev pub address_read : StdType → ℕ → ReadGrammar (List Part)
address_read k n = shown_read (octets_shown k) (made_read (λ v. v) (AsRead IsSame) [] (windowed_read (array_read n (number_read 1 true))))

-- the address of a socket is its octets and its port
abbrev pub socket_shown : StdType → List ℕ × ℕ → List Part
socket_shown k v = Socket k (worth v.0) v.1 ∷ []

-- so many octets and a port
abbrev pub socket_parts_read : ℕ → ReadGrammar (List ℕ × ℕ)
socket_parts_read n = windowed_read (pair_read (windowed_read (array_read n (number_read 1 true))) (number_read 2 true))

-- the address of a socket whose host has so many octets
abbrev pub socket_read : StdType → ℕ → ReadGrammar (List Part)
socket_read k n = shown_read (socket_shown k) (made_read (λ v. v) (AsRead IsSame) [] (socket_parts_read n))

-- a type of std's is read as its schema reads it
abbrev pub std_read : StdType → ReadGrammar (List Part)
std_read F32 = shown_read (bits_shown F32) (made_read (λ v. v) (AsRead (AreBits binary32)) [] (number_read 4 true))
std_read F64 = shown_read (bits_shown F64) (made_read (λ v. v) (AsRead (AreBits binary64)) [] (number_read 8 true))
std_read Duration = time_read Duration (2 ^ 64)
std_read SystemTime = time_read SystemTime (2 ^ 63)
std_read Ipv4Addr = address_read Ipv4Addr 4
std_read Ipv6Addr = address_read Ipv6Addr 16
std_read SocketAddrV4 = socket_read SocketAddrV4 4
std_read SocketAddrV6 = socket_read SocketAddrV6 16

-- the scheme by which the length of a list is read
abbrev pub scheme_of : LengthScheme → Scheme
scheme_of Eight = bincode preallocation_limit
scheme_of Short = short_scheme

-- a text is its length, and then its bytes
abbrev pub text_shown : List ℕ → List Part
text_shown v = Length Eight (length v) ∷ Text v ∷ []

-- a list of bytes is its length, and then its bytes
abbrev pub bytes_shown : LengthScheme → List ℕ → List Part
bytes_shown s v = Length s (length v) ∷ Bytes v ∷ []

-- a list is its length, and then the parts of each item
abbrev pub list_shown : LengthScheme → List (List Part) → List Part
list_shown s vs = Length s (length vs) ∷ joined vs

-- an option and a result are a tag, and then the parts of what it names
abbrev pub option_shown : Option (List Part) → List Part
option_shown None = Tag 1 0 ∷ []
option_shown (Some v) = Tag 1 1 ∷ v

-- so of a result, whose tag has four bytes
abbrev pub result_shown : Result (List Part) (List Part) → List Part
result_shown (Ok v) = Tag 4 0 ∷ v
result_shown (Err w) = Tag 4 1 ∷ w

-- two parts, one after the other
abbrev pub both_shown : List Part × List Part → List Part
both_shown v = v.0 ++ v.1

-- a list is read as its schema reads it
abbrev pub list_of : LengthScheme → ReadGrammar (List Part) → ReadGrammar (List Part)
list_of s g = shown_read (list_shown s) (list_read (scheme_of s) 24 g)

-- how many bytes a tag of this width has
abbrev pub tag_bytes : TagSize → ℕ
tag_bytes tag.U8 = 1
tag_bytes tag.U16 = 2
tag_bytes tag.U32 = 4
tag_bytes tag.U64 = 8

abbrev mutual
  -- The grammar of the type's values, each shown in parts: made of those of its parts, as its schema is.
  pub described_read : Described → ReadGrammar (List Part)
  described_read (type.Integer i) = integer_read i
  described_read (type.NonZero i) = nonzero_read i
  described_read (type.Std k) = std_read k
  described_read type.Bool = shown_read (λ b. Flag b ∷ []) bool_read
  described_read type.Char = shown_read (λ c. Character c ∷ []) char_read
  described_read type.Unit = shown_read (λ u. Nothing ∷ []) unit_read
  described_read type.Text = shown_read text_shown (str_read 24 0 false)
  described_read (type.ByteList s) = shown_read (bytes_shown s) (list_read (scheme_of s) 24 (number_read 1 true))
  described_read (type.ByteArray n) = shown_read (λ v. Bytes v ∷ []) (windowed_read (array_read n (number_read 1 true)))
  described_read (type.Option' p d) = shown_read option_shown (option_read 1 (described_read d))
  described_read (type.Result' p d q e) = shown_read result_shown (result_read 4 (described_read d) (described_read e))
  described_read (type.Boxed' p d) = boxed_read (described_read d)
  described_read (type.List' s p d) = list_of s (described_read d)
  described_read (type.Set' p d) = list_of Eight (described_read d)
  described_read (type.Map' p d) = list_of Eight (described_read d)
  described_read (type.Array' n p d) = shown_read joined (windowed_read (array_read n (described_read d)))
  described_read (type.Tuple' p d) = windowed_read (described_read d)
  described_read (type.Struct' p d) = windowed_read (described_read d)
  described_read (type.Joined' p d q e) = shown_read both_shown (pair_read (described_read d) (described_read e))
  described_read (type.Field' s p d) = described_read d
  described_read (type.Enum' k p cases) = chosen_read (tag_bytes k) (cases_read cases)

  -- what stands behind each tag
  pub cases_read : Cases → CaseGrammars
  cases_read (Last' n p d) = one_case n (described_read d)
  cases_read (Case' n p d q others) = or_case n (described_read d) (cases_read others)

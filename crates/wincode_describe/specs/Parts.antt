-- What is shown of a value: its parts, in order.
use Rattle.std.specs.Prelude.{ℕ, ℤ, ◌-◌, Bool, List, [], ◌∷◌, ◌++◌, string_bytes, encode_utf8}
use Rattle.std.specs.Int.{Width, byte_len, cast_unsigned, w8, w16, w32, w64, w128}
use Rattle.wincode_io.specs.Numbers.{le}
use Rattle.wincode_io.specs.ShortNumbers.{short_encoding}
use Rattle.wincode_base.specs.Leaves.{bool_byte}
use Rattle.wincode_describe.specs.declared.described.Integer.{Integer}
use Rattle.wincode_describe.specs.declared.described.Integer.TheVariants.{U8, U16, U32, U64, U128, Usize, I8, I16, I32, I64, I128, Isize}
use Rattle.wincode_describe.specs.declared.described.LengthScheme.{LengthScheme}
use Rattle.wincode_describe.specs.declared.described.LengthScheme.TheVariants.{Eight, Short}
use Rattle.wincode_describe.specs.declared.described.StdType.{StdType}
use Rattle.wincode_describe.specs.declared.described.StdType.TheVariants.{F32, F64, Duration, SystemTime, Ipv4Addr, Ipv6Addr, SocketAddrV4, SocketAddrV6}
use Rattle.wincode_describe.specs.declared.shown.Shown.{Shown}
use Rattle.wincode_describe.specs.declared.shown.Shown.TheVariants as shown

-- A part of a value: a number, a value of a type of std's by the number that its bytes are, a socket's host by such a number and
-- its port, a flag, a character, a text or bytes without their length, a length, a tag of so many bytes, or a value without bytes.
pub data Part : Type 0 where
  Natural : (integer : Integer) (n : ℕ) → Part
  Signed : (integer : Integer) (z : ℤ) → Part
  Std : (kind : StdType) (n : ℕ) → Part
  Socket : (kind : StdType) (host port : ℕ) → Part
  Flag : (b : Bool) → Part
  Character : (c : ℕ) → Part
  Text : (bytes : List ℕ) → Part
  Bytes : (bytes : List ℕ) → Part
  Length : (scheme : LengthScheme) (count : ℕ) → Part
  Tag : (size tag : ℕ) → Part
  Nothing : Part

-- what contracts see of a part
abbrev pub seen : Shown → Part
seen (shown.Natural i n) = Natural i n
seen (shown.Signed i z) = Signed i z
seen (shown.Std k n) = Std k n
seen (shown.Socket k h p) = Socket k h p
seen (shown.Flag b) = Flag b
seen (shown.Character c) = Character c
seen (shown.Text s) = Text (string_bytes s)
seen (shown.Bytes v) = Bytes v.items
seen (shown.Length scheme n) = Length scheme n
seen (shown.Tag size t) = Tag size t
seen shown.Nothing = Nothing

-- how wide an integer is
abbrev pub width_of : Integer → Width
width_of U8 = w8
width_of U16 = w16
width_of U32 = w32
width_of U64 = w64
width_of U128 = w128
width_of Usize = w64
width_of I8 = w8
width_of I16 = w16
width_of I32 = w32
width_of I64 = w64
width_of I128 = w128
width_of Isize = w64

-- how many bytes a value of a type of std's has
abbrev pub std_size : StdType → ℕ
std_size F32 = 4
std_size F64 = 8
std_size Duration = 12
std_size SystemTime = 12
std_size Ipv4Addr = 4
std_size Ipv6Addr = 16
std_size SocketAddrV4 = 6
std_size SocketAddrV6 = 18

-- the bytes of a length
abbrev pub length_bytes : LengthScheme → ℕ → List ℕ
length_bytes Eight n = le 8 n
length_bytes Short n = short_encoding n

-- the bytes of a part
abbrev pub part_bytes : Part → List ℕ
part_bytes (Natural i n) = le (byte_len (width_of i)) n
part_bytes (Signed i z) = le (byte_len (width_of i)) (cast_unsigned (width_of i) z)
part_bytes (Std k n) = le (std_size k) n
part_bytes (Socket k h p) = le (std_size k - 2) h ++ le 2 p
part_bytes (Flag b) = bool_byte b ∷ []
part_bytes (Character c) = encode_utf8 c
part_bytes (Text bytes) = bytes
part_bytes (Bytes bytes) = bytes
part_bytes (Length scheme n) = length_bytes scheme n
part_bytes (Tag size t) = le size t
part_bytes Nothing = []

-- the bytes of parts, joined in order
abbrev pub parts_bytes : List Part → List ℕ
parts_bytes [] = []
parts_bytes (p ∷ ps) = part_bytes p ++ parts_bytes ps

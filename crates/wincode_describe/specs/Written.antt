-- The text of a described type.
use Rattle.std.specs.Prelude.{ℕ, List, ◌++◌, codes}
use Rattle.std.specs.Fmt.{decimal}
use Rattle.wincode_describe.specs.Forms.{Form, Number, NotZero, Standard, Flag, Letter, Nothing, Words, Bytes, ByteBlock, Maybe, Either, Held, Many, Several, Pairs}
use Rattle.wincode_describe.specs.Forms.{Block, Group, Record, Both, Named, Choice, LastCase, OneCase}
use Rattle.wincode_describe.specs.declared.described.Integer.{Integer}
use Rattle.wincode_describe.specs.declared.described.Integer.TheVariants.{U8, U16, U32, U64, U128, Usize, I8, I16, I32, I64, I128, Isize}
use Rattle.wincode_describe.specs.declared.described.StdType.{StdType}
use Rattle.wincode_describe.specs.declared.described.StdType.TheVariants.{F32, F64, Duration, SystemTime, Ipv4Addr, Ipv6Addr, SocketAddrV4, SocketAddrV6}
use Rattle.wincode_describe.specs.declared.described.LengthScheme.{LengthScheme}
use Rattle.wincode_describe.specs.declared.described.LengthScheme.TheVariants.{Eight, Short}
use Rattle.wincode_describe.specs.declared.described.TagSize.{TagSize}
use Rattle.wincode_describe.specs.declared.described.TagSize.TheVariants as tag

-- the word of an integer's type
abbrev pub integer_name : Integer → List ℕ
integer_name U8 = codes "u8"
integer_name U16 = codes "u16"
integer_name U32 = codes "u32"
integer_name U64 = codes "u64"
integer_name U128 = codes "u128"
integer_name Usize = codes "usize"
integer_name I8 = codes "i8"
integer_name I16 = codes "i16"
integer_name I32 = codes "i32"
integer_name I64 = codes "i64"
integer_name I128 = codes "i128"
integer_name Isize = codes "isize"

-- the word of the type of an integer that isn't 0
abbrev pub nonzero_name : Integer → List ℕ
nonzero_name U8 = codes "NonZeroU8"
nonzero_name U16 = codes "NonZeroU16"
nonzero_name U32 = codes "NonZeroU32"
nonzero_name U64 = codes "NonZeroU64"
nonzero_name U128 = codes "NonZeroU128"
nonzero_name Usize = codes "NonZeroUsize"
nonzero_name I8 = codes "NonZeroI8"
nonzero_name I16 = codes "NonZeroI16"
nonzero_name I32 = codes "NonZeroI32"
nonzero_name I64 = codes "NonZeroI64"
nonzero_name I128 = codes "NonZeroI128"
nonzero_name Isize = codes "NonZeroIsize"

-- the word of a type of std's
abbrev pub std_name : StdType → List ℕ
std_name F32 = codes "f32"
std_name F64 = codes "f64"
std_name Duration = codes "Duration"
std_name SystemTime = codes "SystemTime"
std_name Ipv4Addr = codes "Ipv4Addr"
std_name Ipv6Addr = codes "Ipv6Addr"
std_name SocketAddrV4 = codes "SocketAddrV4"
std_name SocketAddrV6 = codes "SocketAddrV6"

-- what a list is called
abbrev pub list_name : LengthScheme → List ℕ
list_name Eight = codes "Vec"
list_name Short = codes "short Vec"

-- the word of a tag's width
abbrev pub tag_name : TagSize → List ℕ
tag_name tag.U8 = codes "u8"
tag_name tag.U16 = codes "u16"
tag_name tag.U32 = codes "u32"
tag_name tag.U64 = codes "u64"

-- a type as a Rust programmer writes it, the parts of a tuple, a struct, a map and an enum behind commas
abbrev pub written : Form → List ℕ
written (Number i) = integer_name i
written (NotZero i) = nonzero_name i
written (Standard k) = std_name k
written Flag = codes "bool"
written Letter = codes "char"
written Nothing = codes "()"
written Words = codes "String"
written (Bytes s) = list_name s ++ codes "<u8>"
written (ByteBlock n) = codes "[u8; " ++ (decimal n ++ codes "]")
written (Maybe d) = codes "Option<" ++ (written d ++ codes ">")
written (Either d e) = codes "Result<" ++ (written d ++ (codes ", " ++ (written e ++ codes ">")))
written (Held d) = codes "Box<" ++ (written d ++ codes ">")
written (Many s d) = list_name s ++ (codes "<" ++ (written d ++ codes ">"))
written (Several d) = codes "BTreeSet<" ++ (written d ++ codes ">")
written (Pairs d) = codes "BTreeMap<" ++ (written d ++ codes ">")
written (Block n d) = codes "[" ++ (written d ++ (codes "; " ++ (decimal n ++ codes "]")))
written (Group d) = codes "(" ++ (written d ++ codes ")")
written (Record d) = codes "struct { " ++ (written d ++ codes " }")
written (Both d e) = written d ++ (codes ", " ++ written e)
written (Named s d) = s ++ (codes ": " ++ written d)
written (Choice k d) = codes "enum " ++ (tag_name k ++ (codes " { " ++ (written d ++ codes " }")))
written (LastCase n d) = decimal n ++ (codes ": " ++ written d)
written (OneCase n d e) = decimal n ++ (codes ": " ++ (written d ++ (codes ", " ++ written e)))

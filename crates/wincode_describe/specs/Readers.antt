-- How a type is read of its words and signs.
use Rattle.std.specs.Prelude.{◌≡◌, ◌^◌, ◌-◌, ◌/◌, ℕ, zero, suc, Bool, true, false, if◌then◌else◌, nat_lt, nat_eq, ◌||◌, List, [], ◌∷◌, drop, codes, bytes_eq}
use Rattle.std.specs.Prelude.{Option, Some, None, Result, Ok, Err, option_map}
use Rattle.std.specs.Fmt.{decimal}
use Rattle.std.specs.Str.{chars}
use Rattle.wincode_derive_text.specs.Splits.{tokens_in}
use Rattle.wincode_describe.specs.Forms.{Form, seen, Number, NotZero, Standard, Flag, Letter, Nothing, Words, Bytes, ByteBlock, Maybe, Either, Held, Many, Several}
use Rattle.wincode_describe.specs.Forms.{Pairs, Block, Group, Record, Both, Named, Choice, LastCase, OneCase}
use Rattle.wincode_describe.specs.Phrases.{Piece, Said, Unsaid, Refused, Gives, and_then, needed, known, on, behind_sign, behind_name, word_front, front_text, number_front, IsRefusal}
use Rattle.wincode_describe.specs.Sources.{heads, is_there, next_number, declaration_of}
use Rattle.wincode_derive_text.specs.declared.tokens.Kind.TheVariants as kind
use Rattle.wincode_describe.specs.declared.tokens.Over.TheVariants as over
use Rattle.wincode_describe.specs.declared.described.Described.{Described}
use Rattle.wincode_describe.specs.declared.described.Integer.TheVariants.{U8, U16, U32, U64, U128, Usize, I8, I16, I32, I64, I128, Isize}
use Rattle.wincode_describe.specs.declared.described.StdType.TheVariants as std
use Rattle.wincode_describe.specs.declared.described.LengthScheme.{LengthScheme}
use Rattle.wincode_describe.specs.declared.described.LengthScheme.TheVariants.{Eight, Short}
use Rattle.wincode_describe.specs.declared.described.TagSize.{TagSize}
use Rattle.wincode_describe.specs.declared.described.TagSize.TheVariants as tag
use Rattle.wincode_describe.specs.declared.error.DescribeError.{DescribeError}
use Rattle.wincode_describe.specs.declared.error.DescribeError.TheVariants.{OutOfMemory}
use Rattle.wincode_describe.specs.declared.parsing.Holder.{Holder}
use Rattle.wincode_describe.specs.declared.parsing.Holder.TheVariants as holder
use Rattle.wincode_describe.specs.declared.parsing.Known.{Known}
use Rattle.wincode_describe.specs.declared.parsing.Known.TheVariants as known
use Rattle.wincode_describe.specs.declared.parsing.Pair.{Pair}
use Rattle.wincode_describe.specs.declared.parsing.Pair.TheVariants as pair
use Rattle.wincode_describe.specs.declared.parsing.Opening.{Opening}
use Rattle.wincode_describe.specs.declared.parsing.Opening.TheVariants as opening

-- reads a form of what is left, and leaves the rest
abbrev pub Reader : Type 0
Reader = List Piece → Said (Form × List Piece)

-- a sign in front, and the rest
abbrev pub sign_front : List ℕ → List Piece → Said (Unit {0} × List Piece)
sign_front s ts = needed (option_map (λ rest. (tt, rest)) (behind_sign s ts))

-- what stands behind a lifetime and its comma, if a lifetime stands in front
abbrev pub lifetime_front : List Piece → Said (Unit {0} × List Piece)
lifetime_front ts = if is_there (front_text kind.Lifetime ts) then sign_front (codes ",") (drop 1 ts) else Gives (tt, ts)

-- the form that a word is that names one of std's types
abbrev pub std_plain_of : List ℕ → Option Form
std_plain_of w =
    if bytes_eq w (codes "f32") then Some (Standard std.F32)
    else if bytes_eq w (codes "f64") then Some (Standard std.F64)
    else if bytes_eq w (codes "Duration") then Some (Standard std.Duration)
    else if bytes_eq w (codes "SystemTime") then Some (Standard std.SystemTime)
    else if bytes_eq w (codes "Ipv4Addr") then Some (Standard std.Ipv4Addr)
    else if bytes_eq w (codes "Ipv6Addr") then Some (Standard std.Ipv6Addr)
    else if bytes_eq w (codes "SocketAddrV4") then Some (Standard std.SocketAddrV4)
    else if bytes_eq w (codes "SocketAddrV6") then Some (Standard std.SocketAddrV6)
    else if bytes_eq w (codes "NonZeroU8") then Some (NotZero U8)
    else if bytes_eq w (codes "NonZeroU16") then Some (NotZero U16)
    else if bytes_eq w (codes "NonZeroU32") then Some (NotZero U32)
    else if bytes_eq w (codes "NonZeroU64") then Some (NotZero U64)
    else if bytes_eq w (codes "NonZeroU128") then Some (NotZero U128)
    else if bytes_eq w (codes "NonZeroUsize") then Some (NotZero Usize)
    else if bytes_eq w (codes "NonZeroI8") then Some (NotZero I8)
    else if bytes_eq w (codes "NonZeroI16") then Some (NotZero I16)
    else if bytes_eq w (codes "NonZeroI32") then Some (NotZero I32)
    else if bytes_eq w (codes "NonZeroI64") then Some (NotZero I64)
    else if bytes_eq w (codes "NonZeroI128") then Some (NotZero I128)
    else if bytes_eq w (codes "NonZeroIsize") then Some (NotZero Isize)
    else None

-- the form that a word is by itself
abbrev pub plain_of : List ℕ → Option Form
plain_of w =
    if bytes_eq w (codes "bool") then Some Flag
    else if bytes_eq w (codes "char") then Some Letter
    else if bytes_eq w (codes "String") then Some Words
    else if bytes_eq w (codes "BoxedStr") then Some Words
    else if bytes_eq w (codes "CowStr") then Some Words
    else if bytes_eq w (codes "PathBuf") then Some Words
    else if bytes_eq w (codes "u8") then Some (Number U8)
    else if bytes_eq w (codes "u16") then Some (Number U16)
    else if bytes_eq w (codes "u32") then Some (Number U32)
    else if bytes_eq w (codes "u64") then Some (Number U64)
    else if bytes_eq w (codes "u128") then Some (Number U128)
    else if bytes_eq w (codes "usize") then Some (Number Usize)
    else if bytes_eq w (codes "i8") then Some (Number I8)
    else if bytes_eq w (codes "i16") then Some (Number I16)
    else if bytes_eq w (codes "i32") then Some (Number I32)
    else if bytes_eq w (codes "i64") then Some (Number I64)
    else if bytes_eq w (codes "i128") then Some (Number I128)
    else if bytes_eq w (codes "isize") then Some (Number Isize)
    else std_plain_of w

-- what is to stand behind a word
abbrev pub opening_of : List ℕ → Opening
opening_of w =
    if bytes_eq w (codes "struct") then opening.Struct
    else if bytes_eq w (codes "enum") then opening.Enum
    else if bytes_eq w (codes "short") then opening.ShortList
    else if bytes_eq w (codes "Result") then opening.Two pair.Result
    else if bytes_eq w (codes "BTreeMap") then opening.Two pair.Map
    else if bytes_eq w (codes "HashMap") then opening.Two pair.Map
    else if bytes_eq w (codes "Option") then opening.One holder.Option
    else if bytes_eq w (codes "Box") then opening.One holder.Boxed
    else if bytes_eq w (codes "Rc") then opening.One holder.Shared
    else if bytes_eq w (codes "Arc") then opening.One holder.Shared
    else if bytes_eq w (codes "BTreeSet") then opening.One holder.Set
    else if bytes_eq w (codes "HashSet") then opening.One holder.Set
    else if bytes_eq w (codes "Vec") then opening.One holder.List
    else if bytes_eq w (codes "VecDeque") then opening.One holder.List
    else if bytes_eq w (codes "LinkedList") then opening.One holder.List
    else if bytes_eq w (codes "BinaryHeap") then opening.One holder.List
    else if bytes_eq w (codes "CowSlice") then opening.One holder.List
    else if bytes_eq w (codes "Wrapping") then opening.One holder.Bare
    else if bytes_eq w (codes "Saturating") then opening.One holder.Bare
    else if bytes_eq w (codes "Reverse") then opening.One holder.Bare
    else if bytes_eq w (codes "RangeFrom") then opening.One holder.Bare
    else if bytes_eq w (codes "RangeTo") then opening.One holder.Bare
    else if bytes_eq w (codes "Range") then opening.Range
    else if bytes_eq w (codes "RangeInclusive") then opening.Range
    else if bytes_eq w (codes "Cow") then opening.Cow
    else if bytes_eq w (codes "RcStr") then opening.Known known.SharedText
    else if bytes_eq w (codes "ArcStr") then opening.Known known.SharedText
    else if bytes_eq w (codes "IpAddr") then opening.Known known.IpAddr
    else if bytes_eq w (codes "SocketAddr") then opening.Known known.SocketAddr
    else if bytes_eq w (codes "containers") then opening.Container
    else opening.Name

-- the width of an enum's tag, by its word
abbrev pub tag_of : List ℕ → Option TagSize
tag_of w =
    if bytes_eq w (codes "u8") then Some tag.U8
    else if bytes_eq w (codes "u16") then Some tag.U16
    else if bytes_eq w (codes "u32") then Some tag.U32
    else if bytes_eq w (codes "u64") then Some tag.U64
    else None

-- how a list's length is written, by the word of its scheme
abbrev pub scheme_of : List ℕ → Option LengthScheme
scheme_of w = if bytes_eq w (codes "ShortU16Len") then Some Short else if bytes_eq w (codes "BincodeLen") then Some Eight else None

-- the greatest tag of this width
abbrev pub greatest_of : TagSize → ℕ
greatest_of tag.U8 = 255
greatest_of tag.U16 = 65535
greatest_of tag.U32 = 4294967295
greatest_of tag.U64 = 2 ^ 64 - 1

-- a list of bytes is one part
abbrev pub list_form : LengthScheme → Form → Form
list_form s (Number U8) = Bytes s
list_form s d = Many s d

-- an array of bytes is one part
abbrev pub array_form : ℕ → Form → Form
array_form n (Number U8) = ByteBlock n
array_form n d = Block n d

-- what stands in the angle brackets of such a word is held so
abbrev pub held_form : Holder → Form → Form
held_form holder.Option d = Maybe d
held_form holder.Boxed d = Held d
held_form holder.Shared d = Held d
held_form holder.Set d = Several d
held_form holder.List d = list_form Eight d
held_form holder.Bare d = d

-- what holds a `str`: a text, or a box that several hold of one
abbrev pub text_form : Holder → Option Form
text_form holder.Boxed = Some Words
text_form holder.Shared = Some (Held Words)
text_form _ = None

-- two bounds of one type
abbrev pub range_form : Form → Form
range_form d = Record (Both (Named (codes "start") d) (Named (codes "end") d))

-- what such a word is by itself, made of other types
abbrev pub known_form : Known → Form
known_form known.SharedText = Held Words
known_form known.IpAddr = Either (Standard std.Ipv4Addr) (Standard std.Ipv6Addr)
known_form known.SocketAddr = Either (Standard std.SocketAddrV4) (Standard std.SocketAddrV6)

-- the two that stand in the angle brackets of such a word
abbrev pub pair_form : Pair → Form → Form → Form
pair_form pair.Result d e = Either d e
pair_form pair.Map d e = Pairs (Both d e)

-- a case has the tag
abbrev pub has_tag : Form → ℕ → Bool
has_tag (LastCase n d) t = nat_eq n t
has_tag (OneCase n d others) t = nat_eq n t || has_tag others t
has_tag _ t = false

-- what is made is seen as this form, or there was no memory
abbrev pub Makes : {X Y : Type 0} → (Y → X) → X → Result Y DescribeError → Type 0
Makes view f (Ok d) = view d ≡ f
Makes view f (Err e) = e ≡ OutOfMemory

-- A list in brackets goes on behind a comma, unless it is closed there.
abbrev pub goes_on : List ℕ → List Piece → Said (Bool × List Piece)
goes_on closing ts = on (behind_sign (codes ",") ts)
    (λ rest. Gives (on (behind_sign closing rest) (λ end. (false, end)) (true, rest)))
    (needed (option_map (λ end. (false, end)) (behind_sign closing ts)))

-- this form, behind which its angle bracket is closed
abbrev pub closed : Form → Reader
closed d ts = and_then (sign_front (codes ">") ts) (λ e. Gives (d, e.1))

-- a list of such items, whose scheme of length stands in front
abbrev pub schemed : Form → Reader
schemed d ts = and_then (needed (word_front ts)) (λ w. and_then (needed (scheme_of w.0)) (λ k. closed (list_form k d) w.1))

-- what holds a `str`, behind that word
abbrev pub text_by : Holder → Reader
text_by h ts = and_then (needed (text_form h)) (λ d. closed d ts)

module _ (types : Reader) where
  -- an item, a semicolon, how many there are, and the closing bracket
  abbrev pub array_by : Reader
  array_by ts = and_then (types ts) (λ d. and_then (sign_front (codes ";") d.1)
      (λ s. and_then (needed (number_front s.1)) (λ n. and_then (sign_front (codes "]") n.1) (λ e. Gives (array_form n.0 d.0, e.1)))))

  -- one type, behind which its angle bracket is closed
  abbrev pub held_in : (Form → Form) → Reader
  held_in f ts = and_then (types ts) (λ d. closed (f d.0) d.1)

  -- one type in angle brackets
  abbrev pub item_by : (Form → Form) → Reader
  item_by f ts = and_then (sign_front (codes "<") ts) (λ s. held_in f s.1)

  -- what holds one type, or a `str`, in angle brackets
  abbrev pub one_by : Holder → Reader
  one_by h ts = and_then (sign_front (codes "<") ts) (λ s. on (behind_name (codes "str") s.1) (text_by h) (held_in (held_form h) s.1))

  -- an item in brackets, behind which an angle bracket is closed: a list
  abbrev pub slice_by : Reader
  slice_by ts = and_then (sign_front (codes "[") ts)
      (λ s. and_then (types s.1) (λ d. and_then (sign_front (codes "]") d.1) (λ e. closed (list_form Eight d.0) e.1)))

  -- a `str` or a slice in angle brackets, behind a lifetime or none
  abbrev pub cow_by : Reader
  cow_by ts = and_then (sign_front (codes "<") ts)
      (λ s. and_then (lifetime_front s.1) (λ l. on (behind_name (codes "str") l.1) (closed Words) (slice_by l.1)))

  -- an item and its scheme of length in angle brackets
  abbrev pub schemed_by : Reader
  schemed_by ts = and_then (sign_front (codes "<") ts) (λ s. and_then (types s.1) (λ d. and_then (sign_front (codes ",") d.1) (λ e. schemed d.0 e.1)))

  -- `::Vec`, its item and its scheme of length
  abbrev pub container_by : Reader
  container_by ts = and_then (sign_front (codes "::") ts) (λ s. and_then (needed (word_front s.1))
      (λ w. if bytes_eq w.0 (codes "Vec") then schemed_by w.1 else Refused))

  -- `Vec` and its item, behind the word `short`: a list behind a short length
  abbrev pub short_by : Reader
  short_by ts = and_then (needed (word_front ts)) (λ w. if bytes_eq w.0 (codes "Vec") then item_by (list_form Short) w.1 else Refused)

  -- two types in angle brackets
  abbrev pub two_by : (Form → Form → Form) → Reader
  two_by f ts = and_then (sign_front (codes "<") ts) (λ s. and_then (types s.1)
      (λ d. and_then (sign_front (codes ",") d.1) (λ t. and_then (types t.1) (λ e. and_then (sign_front (codes ">") e.1) (λ u. Gives (f d.0 e.0, u.1))))))

  -- two members or more, behind their bracket
  abbrev pub several_by : Reader → Reader
  several_by members ts = and_then (types ts) (λ d. and_then (sign_front (codes ",") d.1) (λ s. and_then (members s.1) (λ e. Gives (Group (Both d.0 e.0), e.1))))

  -- behind the opening bracket of a tuple: none, or two members or more
  abbrev pub tuple_by : Reader → Reader
  tuple_by members ts = on (behind_sign (codes ")") ts) (λ rest. Gives (Nothing, rest)) (several_by members ts)

  -- one member or more, up to the closing bracket
  abbrev pub members_by : Reader → Reader
  members_by members ts = and_then (types ts) (λ d. and_then (goes_on (codes ")") d.1)
      (λ g. if g.0 then and_then (members g.1) (λ e. Gives (Both d.0 e.0, e.1)) else Gives (d.0, g.1)))

  -- one field or more, each by its name, up to the closing brace
  abbrev pub fields_by : Reader → Reader
  fields_by fields ts = and_then (known (heads over.Between ts)) (λ hs. and_then (needed (word_front hs)) (λ w. and_then (sign_front (codes ":") w.1)
      (λ s. and_then (types s.1) (λ d. and_then (goes_on (codes "}") d.1)
      (λ g. if g.0 then and_then (fields g.1) (λ e. Gives (Both (Named w.0 d.0) e.0, e.1)) else Gives (Named w.0 d.0, g.1))))))

  -- one field or more without names, the first of which has this place, up to the closing bracket
  abbrev pub numbered_by : ℕ → (ℕ → Reader) → Reader
  numbered_by place numbered ts = and_then (known (heads over.Between ts)) (λ hs. and_then (types hs) (λ d. and_then (goes_on (codes ")") d.1)
      (λ g. if g.0 then and_then (needed (next_number place)) (λ n. and_then (numbered n g.1) (λ e. Gives (Both (Named (decimal place) d.0) e.0, e.1)))
      else Gives (Named (decimal place) d.0, g.1))))

  -- One case or more of an enum that is declared, by their names, up to the closing brace: a case's tag is its place, and
  -- what it holds stands behind its name.
  abbrev pub variants_by : ℕ → (ℕ → Reader) → Reader
  variants_by place variants ts = and_then (known (heads over.Between ts)) (λ hs. and_then (needed (word_front hs)) (λ w. and_then (types w.1)
      (λ d. and_then (goes_on (codes "}") d.1)
      (λ g. if g.0 then and_then (needed (next_number place)) (λ n. and_then (variants n g.1) (λ e. Gives (OneCase place d.0 e.0, e.1)))
      else Gives (LastCase place d.0, g.1)))))

  -- one case or more, each by a tag that no other has, up to the closing brace
  abbrev pub cases_by : ℕ → Reader → Reader
  cases_by greatest cases ts = and_then (needed (number_front ts)) (λ n. if nat_lt greatest n.0 then Refused else and_then (sign_front (codes ":") n.1)
      (λ s. and_then (types s.1) (λ d. and_then (goes_on (codes "}") d.1)
      (λ g. if g.0 then and_then (cases g.1) (λ e. if has_tag e.0 n.0 then Refused else Gives (OneCase n.0 d.0 e.0, e.1)) else Gives (LastCase n.0 d.0, g.1)))))

-- the readers of types and of their parts, each for so many levels, and those of types for fewer
pub record Readers : Type 0 where
  pub levels : ℕ
  pub types_of : ℕ → Reader
  pub types : Reader
  pub tuple : Reader
  pub members : Reader
  pub fields : Reader
  pub cases : ℕ → Reader
  pub numbered : ℕ → Reader
  pub held : Reader
  pub variants : ℕ → Reader

-- the fields of a struct, in braces
abbrev pub struct_by : Reader → Reader
struct_by fields ts = and_then (sign_front (codes "{") ts) (λ s. and_then (fields s.1) (λ d. Gives (Record d.0, d.1)))

-- the word of an enum's tag, and its cases, in braces
abbrev pub enum_by : (ℕ → Reader) → Reader
enum_by cases ts = and_then (needed (word_front ts)) (λ w. and_then (needed (tag_of w.0))
    (λ k. and_then (sign_front (codes "{") w.1) (λ s. and_then (cases (greatest_of k) s.1) (λ d. Gives (Choice k d.0, d.1)))))

-- fields with names, or none, up to the closing brace
abbrev pub braced_by : Readers → Reader
braced_by below ts = on (behind_sign (codes "}") ts) (λ rest. Gives (Nothing, rest)) (and_then (below.fields ts) (λ d. Gives (Record d.0, d.1)))

-- fields without names, or none, up to the closing bracket
abbrev pub rounded_by : Readers → Reader
rounded_by below ts = on (behind_sign (codes ")") ts) (λ rest. Gives (Nothing, rest)) (and_then (below.numbered 0 ts) (λ d. Gives (Record d.0, d.1)))

-- so, as what may also not be there
abbrev pub there : Form × List Piece → Said (Option Form × List Piece)
there d = Gives (Some d.0, d.1)

-- fields in brackets, if there are brackets
abbrev pub shape_by : Readers → List Piece → Said (Option Form × List Piece)
shape_by below ts = on (behind_sign (codes "{") ts) (λ rest. and_then (braced_by below rest) there)
    (on (behind_sign (codes "(") ts) (λ rest. and_then (rounded_by below rest) there) (Gives (None, ts)))

-- what a case holds: its fields, or nothing
abbrev pub held_by : Readers → Reader
held_by below ts = and_then (shape_by below ts) (λ s. Gives (on s.0 (λ d. d) Nothing, s.1))

-- what stands behind a struct's name: its fields, or a semicolon
abbrev pub declared_struct : Readers → Reader
declared_struct below ts = and_then (shape_by below ts)
    (λ s. on s.0 (λ d. Gives (d, s.1)) (and_then (sign_front (codes ";") s.1) (λ e. Gives (Nothing, e.1))))

-- what stands behind an enum's name: its cases, in braces
abbrev pub declared_enum : Readers → Reader
declared_enum below ts = and_then (sign_front (codes "{") ts) (λ s. and_then (below.variants 0 s.1) (λ d. Gives (Choice tag.U32 d.0, d.1)))

-- the type that is declared there: whether it is a struct, and what stands behind its name
abbrev pub found_as : Readers → Bool × List Piece → Said Form
found_as below k = and_then (if k.0 then declared_struct below k.1 else declared_enum below k.1) (λ d. Gives d.0)

-- the struct or enum that a source declares by this name
abbrev pub declared_as : List Piece → Readers → List ℕ → Said Form
declared_as source below name = and_then (declaration_of name 0 source) (found_as below)

-- A range, in angle brackets the type of its bounds: that has half of the levels, since it stands there twice.
abbrev pub range_by : Readers → Reader
range_by below ts = item_by (below.types_of (below.levels / 2)) range_form ts

-- what stands behind the word that begins a type; a word that is none of a type's names what the source declares
abbrev pub behind_word : List Piece → Readers → Opening → List ℕ → Reader
behind_word source below opening.Struct w ts = struct_by below.fields ts
behind_word source below opening.Enum w ts = enum_by below.cases ts
behind_word source below opening.ShortList w ts = short_by below.types ts
behind_word source below (opening.Two p) w ts = two_by below.types (pair_form p) ts
behind_word source below (opening.One h) w ts = one_by below.types h ts
behind_word source below opening.Container w ts = container_by below.types ts
behind_word source below opening.Range w ts = range_by below ts
behind_word source below opening.Cow w ts = cow_by below.types ts
behind_word source below (opening.Known k) w ts = Gives (known_form k, ts)
behind_word source below opening.Name w ts = and_then (declared_as source below w) (λ d. Gives (d, ts))

-- a type that begins with a word, which stands in front of the rest
abbrev pub word_by : List Piece → Readers → List ℕ × List Piece → Said (Form × List Piece)
word_by source below w = on (plain_of w.0) (λ d. Gives (d, w.1)) (behind_word source below (opening_of w.0) w.0 w.1)

-- an array, or a type that begins with a word
abbrev pub array_or_word : List Piece → Readers → Reader
array_or_word source below ts = on (behind_sign (codes "[") ts) (array_by below.types) (and_then (needed (word_front ts)) (word_by source below))

-- a type: a tuple, an array, or one that begins with a word
abbrev pub type_by : List Piece → Readers → Reader
type_by source below ts = on (behind_sign (codes "(") ts) below.tuple (array_or_word source below ts)

-- one level more
abbrev pub one_more : List Piece → Readers → Readers
one_more source below = record {
  levels = suc below.levels;
  types_of = λ n. if nat_lt below.levels n then type_by source below else below.types_of n;
  types = type_by source below;
  tuple = tuple_by (type_by source below) below.members;
  members = members_by (type_by source below) below.members;
  fields = fields_by below.types below.fields;
  cases = λ greatest. cases_by below.types greatest (below.cases greatest);
  numbered = λ place. numbered_by below.types place below.numbered;
  held = held_by below;
  variants = λ place. variants_by below.held place below.variants;
}

-- within no level
abbrev pub unread : Reader
unread ts = Refused

-- where no level is left, nothing is read but `()`
abbrev pub no_more : Readers
no_more = record {
  levels = 0;
  types_of = λ n. unread;
  types = unread;
  tuple = tuple_by unread unread;
  members = unread;
  fields = unread;
  cases = λ greatest. unread;
  numbered = λ place. unread;
  held = unread;
  variants = λ place. unread;
}

-- the readers of so many levels, where names are those of what this source declares
unfoldable pub readers : List Piece → ℕ → Readers
readers source zero = no_more
readers source (suc n) = one_more source (readers source n)

-- nothing is left behind a form
abbrev pub ended : Form × List Piece → Said Form
ended (f, []) = Gives f
ended (f, p ∷ rest) = Refused

-- the form that all of a text is, of at most so many levels
abbrev pub whole : List Piece → ℕ → List Piece → Said Form
whole source levels ts = and_then ((readers source levels).types ts) ended

-- What is parsed, by the source, is what is said; or it was refused.
abbrev pub Parses : List Piece → Said Form → Result Described DescribeError → Type 0
Parses source Unsaid result = Unit
Parses source Refused (Ok d) = ⊥
Parses source Refused (Err e) = Unit
Parses source (Gives f) (Ok d) = seen d ≡ f
Parses source (Gives f) (Err e) = IsRefusal source e

-- The type that a text describes, where names are those of what these words and signs declare; nothing is said where the
-- text's aren't known.
abbrev pub type_among : List Piece → List ℕ → ℕ → Said Form
type_among source text levels = and_then (known (tokens_in (chars text))) (whole source levels)

-- so, where no name is declared
abbrev pub type_of : List ℕ → ℕ → Said Form
type_of text levels = type_among [] text levels

-- The type that a text describes, where the structs and enums of a source have their names; nothing is said where the
-- words and signs of one of them aren't known.
abbrev pub type_in : List ℕ → List ℕ → ℕ → Said Form
type_in source text levels = and_then (known (tokens_in (chars source))) (λ s. type_among s text levels)

-- The type is that which is said, and it isn't refused.
abbrev pub IsKnownAs : Said Form → Form → Type 0
IsKnownAs Unsaid f = Unit
IsKnownAs Refused f = ⊥
IsKnownAs (Gives g) f = f ≡ g

-- nothing but memory is refused of a type
abbrev pub IsRefusedOf : Said Form → DescribeError → Type 0
IsRefusedOf (Gives f) e = e ≡ OutOfMemory
IsRefusedOf _ e = Unit

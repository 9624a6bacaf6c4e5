-- The bytes of the parts of a value, joined, are its encoding.
use Rattle.std.proofs.Common.{◌≡◌, ◌∙◌, sym, ap, subst, ℕ, zero, suc, ◌+◌, ◌-◌, ◌*◌, ◌/◌, ◌%◌, arith, ◌<◌, ◌^◌, Bool, true, false, List, [], ◌∷◌, ◌++◌, length, append-nil, append_assoc, Some, None}
use Rattle.std.proofs.Common.{Ok, Err, nat_eq, refl}
use Rattle.std.specs.Prelude.{Result, Option}
use Rattle.std.proofs.Math.Nat.{mul_assoc, pow-succ'}
use Rattle.wincode_io.specs.Bytes.{IsBytes}
use Rattle.wincode_io.specs.NumberLaws.{le-byte, le-worth_within}
use Rattle.wincode_io.specs.Numbers.{le, worth}
use Rattle.wincode_io.specs.Joins.{Joined}
use Rattle.wincode_base.specs.Grammar.{ReadGrammar}
use Rattle.wincode_base.specs.Leaves.{number_read}
use Rattle.wincode_base.specs.LengthLaws.{bincode_encoding_is}
use Rattle.wincode_base.specs.Lengths.{preallocation_limit}
use Rattle.wincode_base.specs.Lists.{list_read}
use Rattle.wincode_base.specs.ShortLaws.{short_is}
use Rattle.wincode_base.specs.Tags.{option_read, result_read}
use Rattle.wincode_describe.specs.Parts.{Part, Std, Socket, Bytes, Tag, std_size, part_bytes, parts_bytes, length_bytes}
use Rattle.wincode_describe.specs.ShownGrammars.{shown_read, joined, chosen_read, nameless_read, read_if, CaseGrammars}
use Rattle.wincode_describe.specs.Types.{time_read, address_read, socket_read, std_read}
use Rattle.wincode_describe.specs.Types.{integer_read, scheme_of, bytes_shown, list_of, option_shown, result_shown, tag_bytes, described_read, cases_read}
use Rattle.wincode_describe.specs.declared.described.Integer.{Integer}
use Rattle.wincode_describe.specs.declared.described.Integer.TheVariants.{U8, U16, U32, U64, U128, Usize, I8, I16, I32, I64, I128, Isize}
use Rattle.wincode_describe.specs.declared.described.StdType.{StdType}
use Rattle.wincode_describe.specs.declared.described.StdType.TheVariants.{F32, F64, Duration, SystemTime, Ipv4Addr, Ipv6Addr, SocketAddrV4, SocketAddrV6}
use Rattle.wincode_describe.specs.declared.described.LengthScheme.{LengthScheme}
use Rattle.wincode_describe.specs.declared.described.LengthScheme.TheVariants.{Eight, Short}
use Rattle.wincode_describe.specs.declared.described.Described.{Described}
use Rattle.wincode_describe.specs.declared.described.Described.TheVariants as type
use Rattle.wincode_describe.specs.declared.described.Cases.{Cases}
use Rattle.wincode_describe.specs.declared.described.Cases.TheVariants.{Last', Case'}

-- what reads as some parts are their bytes
abbrev pub HasBytes : (List ℕ → List Part → Type 0) → Type 0
HasBytes reads = (b : List ℕ) (w : List Part) → reads b w → b ≡ parts_bytes w

pub parts_append : (v w : List Part) → parts_bytes (v ++ w) ≡ parts_bytes v ++ parts_bytes w
parts_append [] w = refl
parts_append (p ∷ v) w = ap (λ t. part_bytes p ++ t) (parts_append v w) ∙ sym (append_assoc (part_bytes p) (parts_bytes v) (parts_bytes w))

-- one part alone
one_part : (b : List ℕ) (p : Part) (w : List Part) → b ≡ part_bytes p → w ≡ p ∷ [] → b ≡ parts_bytes w
one_part b p w e s = e ∙ sym (append-nil (part_bytes p)) ∙ ap parts_bytes (sym s)

pub scheme_bytes : (s : LengthScheme) (n : ℕ) (x : List ℕ) → (scheme_of s).encoding n ≡ Some x → x ≡ length_bytes s n
scheme_bytes Eight n x e = (bincode_encoding_is preallocation_limit n x e).1
scheme_bytes Short n x e = (short_is n x e).1

integer_bytes : (i : Integer) → HasBytes (integer_read i).reads
integer_bytes U8 b w r = one_part b _ w r.1.1 r.2
integer_bytes U16 b w r = one_part b _ w r.1.1 r.2
integer_bytes U32 b w r = one_part b _ w r.1.1 r.2
integer_bytes U64 b w r = one_part b _ w r.1.1 r.2
integer_bytes U128 b w r = one_part b _ w r.1.1 r.2
integer_bytes Usize b w r = one_part b _ w r.1.1 r.2
integer_bytes I8 b w r = one_part b _ w r.1.1 r.2
integer_bytes I16 b w r = one_part b _ w r.1.1 r.2
integer_bytes I32 b w r = one_part b _ w r.1.1 r.2
integer_bytes I64 b w r = one_part b _ w r.1.1 r.2
integer_bytes I128 b w r = one_part b _ w r.1.1 r.2
integer_bytes Isize b w r = one_part b _ w r.1.1 r.2

-- ---- items

pub items_bytes : (reads : List ℕ → List Part → Type 0) → HasBytes reads → (vs : List (List Part)) (b : List ℕ) → Joined reads vs b → b
    ≡ parts_bytes (joined vs)
items_bytes reads h [] b j = j
items_bytes reads h (v ∷ vs) b j = j.4 ∙ ap (λ t. t ++ j.1) (h j.0 v j.2) ∙ ap (λ t. parts_bytes v ++ t) (items_bytes reads h vs j.1 j.3)
    ∙ sym (parts_append v (joined vs))

le_one : (v : ℕ) → v < 256 ^ 1 → le 1 v ≡ v ∷ []
le_one v h = sym (le-byte v h)

-- bytes, each of which is a number
bytes_joined : (vs b : List ℕ) → Joined (number_read 1 true).reads vs b → b ≡ vs
bytes_joined [] b j = j
bytes_joined (v ∷ vs) b j = j.4 ∙ ap (λ t. t ++ j.1) (j.2.1 ∙ le_one v j.2.0) ∙ ap (λ t. v ∷ t) (bytes_joined vs j.1 j.3)

byte_list_bytes : (s : LengthScheme) → HasBytes (shown_read (bytes_shown s) (list_read (scheme_of s) 24 (number_read 1 true))).reads
byte_list_bytes s b w r =
    let l = r.1.1 in
    l.4 ∙ ap (λ t. t ++ l.1) (scheme_bytes s (length r.0) l.0 l.2)
    ∙ ap (λ t. length_bytes s (length r.0) ++ t) (bytes_joined r.0 l.1 l.3 ∙ sym (append-nil r.0)) ∙ ap parts_bytes (sym r.2)

pub list_bytes : (s : LengthScheme) (g : ReadGrammar (List Part)) → HasBytes g.reads → HasBytes (list_of s g).reads
list_bytes s g h b w r =
    let l = r.1.1 in
    l.4 ∙ ap (λ t. t ++ l.1) (scheme_bytes s (length r.0) l.0 l.2) ∙ ap (λ t. length_bytes s (length r.0) ++ t) (items_bytes g.reads h r.0 l.1 l.3)
    ∙ ap parts_bytes (sym r.2)

-- ---- types of std's

-- the bytes of two numbers are those of one
pub le_joined : (k m a b : ℕ) → a < 256 ^ k → le (k + m) (a + 256 ^ k * b) ≡ le k a ++ le m b
unfolding le
le_joined zero m a b h =
    let none : a + 256 ^ 0 * b ≡ b = let one : 256 ^ 0 ≡ 1 = refl in omega (arith, h, one) in
    ap (λ k. le k (a + 256 ^ 0 * b)) (omega arith) ∙ ap (le m) none
le_joined (suc k) m a b h =
    let c = 256 ^ k * b in
    let step : 256 ^ suc k * b ≡ 256 * c = ap (λ t. t * b) (pow-succ' 256 k) ∙ mul_assoc 256 (256 ^ k) b in
    let more : suc k + m ≡ suc (k + m) = omega arith in
    let all : a + 256 ^ suc k * b ≡ a + 256 * c = omega (arith, step) in
    let low : (a + 256 * c) % 256 ≡ a % 256 = omega arith in
    let high : (a + 256 * c) / 256 ≡ a / 256 + c = omega arith in
    let below : a < 256 * 256 ^ k = subst (λ t. a < t) (pow-succ' 256 k) h in
    let small : a / 256 < 256 ^ k = omega (arith, below) in
    ap (λ t. le t (a + 256 ^ suc k * b)) more ∙ ap (le (suc (k + m))) all ∙ ap (λ t. t ∷ le (k + m) ((a + 256 * c) / 256)) low
    ∙ ap (λ t. a % 256 ∷ le (k + m) t) high ∙ ap (λ t. a % 256 ∷ t) (le_joined k m (a / 256) b small)

-- bytes that were read are bytes
joined_are_bytes : (vs b : List ℕ) → Joined (number_read 1 true).reads vs b → IsBytes vs
joined_are_bytes [] b j i d h = absurd (omega (arith, h))
joined_are_bytes (v ∷ vs) b j zero d h = j.2.0
joined_are_bytes (v ∷ vs) b j (suc i) d h = joined_are_bytes vs j.1 j.3 i d (omega (arith, h))

time_bytes : (k : StdType) (limit : ℕ) → std_size k ≡ 12 → HasBytes (time_read k limit).reads
time_bytes k limit e b w r =
    let p = r.1.0 in
    let same : p ≡ r.0 = sym r.1.3.0 ∙ r.1.4 in
    let j = r.1.2 in
    let joins : b ≡ le 8 p.0 ++ le 4 p.1 = j.4 ∙ ap (λ t. t ++ j.1) j.2.1 ∙ ap (λ t. le 8 p.0 ++ t) j.3.1 in
    one_part b (Std k (r.0.0 + 256 ^ 8 * r.0.1)) w
    (joins ∙ sym (le_joined 8 4 p.0 p.1 j.2.0) ∙ ap (λ n. le n (p.0 + 256 ^ 8 * p.1)) (sym e) ∙ ap (λ v. le (std_size k) (v.0 + 256 ^ 8 * v.1)) same) r.2

address_bytes : (k : StdType) (n : ℕ) → std_size k ≡ n → HasBytes (address_read k n).reads
address_bytes k n e b w r =
    let p = r.1.0 in
    let same : p ≡ r.0 = sym r.1.3.0 ∙ r.1.4 in
    let j = r.1.2 in
    let joins : b ≡ p = bytes_joined p b j.1 in
    one_part b (Std k (worth r.0)) w
    (joins ∙ sym (le-worth_within n p (joined_are_bytes p b j.1) j.0) ∙ ap (λ m. le m (worth p)) (sym e) ∙ ap (λ v. le (std_size k) (worth v)) same) r.2

socket_bytes : (k : StdType) (n : ℕ) → std_size k - 2 ≡ n → HasBytes (socket_read k n).reads
socket_bytes k n e b w r =
    let p = r.1.0 in
    let same : p ≡ r.0 = sym r.1.3.0 ∙ r.1.4 in
    let j = r.1.2 in
    let octets = j.2 in
    let host : j.0 ≡ p.0 = bytes_joined p.0 j.0 octets.1 in
    let joins : b ≡ p.0 ++ le 2 p.1 = j.4 ∙ ap (λ t. t ++ j.1) host ∙ ap (λ t. p.0 ++ t) j.3.1 in
    let number : p.0 ≡ le n (worth p.0) = sym (le-worth_within n p.0 (joined_are_bytes p.0 j.0 octets.1) octets.0) in
    one_part b (Socket k (worth r.0.0) r.0.1) w
    (joins ∙ ap (λ t. t ++ le 2 p.1) number ∙ ap (λ m. le m (worth p.0) ++ le 2 p.1) (sym e) ∙ ap (λ v. le (std_size k - 2) (worth v.0) ++ le 2 v.1) same) r.2

std_bytes : (k : StdType) → HasBytes (std_read k).reads
std_bytes F32 b w r = one_part b (Std F32 r.0) w (r.1.2.1 ∙ ap (le 4) (sym r.1.3.0 ∙ r.1.4)) r.2
std_bytes F64 b w r = one_part b (Std F64 r.0) w (r.1.2.1 ∙ ap (le 8) (sym r.1.3.0 ∙ r.1.4)) r.2
std_bytes Duration b w r = time_bytes Duration (2 ^ 64) refl b w r
std_bytes SystemTime b w r = time_bytes SystemTime (2 ^ 63) refl b w r
std_bytes Ipv4Addr b w r = address_bytes Ipv4Addr 4 refl b w r
std_bytes Ipv6Addr b w r = address_bytes Ipv6Addr 16 refl b w r
std_bytes SocketAddrV4 b w r = socket_bytes SocketAddrV4 4 refl b w r
std_bytes SocketAddrV6 b w r = socket_bytes SocketAddrV6 16 refl b w r

-- ---- tags

option_bytes : (g : ReadGrammar (List Part)) → HasBytes g.reads → (b : List ℕ) (o : Option (List Part)) → (option_read 1 g).reads b o → b
    ≡ parts_bytes (option_shown o)
option_bytes g h b None r = r.2 ∙ ap (λ t. part_bytes (Tag 1 0) ++ t) r.1
option_bytes g h b (Some v) r = r.2 ∙ ap (λ t. part_bytes (Tag 1 1) ++ t) (h r.0 v r.1)

result_bytes : (g k : ReadGrammar (List Part)) → HasBytes g.reads → HasBytes k.reads → (b : List ℕ) (o : Result (List Part) (List Part))
    → (result_read 4 g k).reads b o → b ≡ parts_bytes (result_shown o)
result_bytes g k h i b (Ok v) r = r.2 ∙ ap (λ t. part_bytes (Tag 4 0) ++ t) (h r.0 v r.1)
result_bytes g k h i b (Err v) r = r.2 ∙ ap (λ t. part_bytes (Tag 4 1) ++ t) (i r.0 v r.1)

chosen_bytes : (k : ℕ) (cases : CaseGrammars) → ((t : ℕ) → HasBytes (cases.case t).reads) → HasBytes (chosen_read k cases).reads
chosen_bytes k cases h b w r =
    r.joins ∙ ap (λ t. t ++ r.y) r.one.1 ∙ ap (λ t. part_bytes (Tag k r.before) ++ t) (h r.before r.y r.two.0 r.two.1) ∙ ap parts_bytes (sym r.two.2)

if_bytes : (b : Bool) (g h : ReadGrammar (List Part)) → HasBytes g.reads → HasBytes h.reads → HasBytes (read_if b g h).reads
if_bytes true g h i j = i
if_bytes false g h i j = j

mutual
  -- So it is of every described type.
  pub described_bytes : (d : Described) → HasBytes (described_read d).reads
  described_bytes (type.Integer i) b w r = integer_bytes i b w r
  described_bytes (type.NonZero i) b w r = integer_bytes i b r.0 r.2 ∙ ap parts_bytes (sym r.3.0 ∙ r.4)
  described_bytes (type.Std k) b w r = std_bytes k b w r
  described_bytes type.Bool b w r = one_part b _ w r.1 r.2
  described_bytes type.Char b w r = one_part b _ w r.1.1 r.2
  described_bytes type.Unit b w r = r.1 ∙ ap parts_bytes (sym r.2)
  described_bytes type.Text b w r = r.1.2 ∙ ap (λ t. length_bytes Eight (length r.0) ++ t) (sym (append-nil r.0)) ∙ ap parts_bytes (sym r.2)
  described_bytes (type.ByteList s) b w r = byte_list_bytes s b w r
  described_bytes (type.ByteArray n) b w r = one_part b (Bytes r.0) w (bytes_joined r.0 b r.1.1) r.2
  described_bytes (type.Option' p d) b w r = option_bytes (described_read d) (described_bytes d) b r.0 r.1 ∙ ap parts_bytes (sym r.2)
  described_bytes (type.Result' p d q e) b w r = result_bytes (described_read d) (described_read e) (described_bytes d) (described_bytes e) b r.0 r.1
      ∙ ap parts_bytes (sym r.2)
  described_bytes (type.Boxed' p d) b w r = described_bytes d b w r
  described_bytes (type.List' s p d) b w r = list_bytes s (described_read d) (described_bytes d) b w r
  described_bytes (type.Set' p d) b w r = list_bytes Eight (described_read d) (described_bytes d) b w r
  described_bytes (type.Map' p d) b w r = list_bytes Eight (described_read d) (described_bytes d) b w r
  described_bytes (type.Array' n p d) b w r = items_bytes (described_read d).reads (described_bytes d) r.0 b r.1.1 ∙ ap parts_bytes (sym r.2)
  described_bytes (type.Tuple' p d) b w r = described_bytes d b w r
  described_bytes (type.Struct' p d) b w r = described_bytes d b w r
  described_bytes (type.Joined' p d q e) b w r =
      r.1.4 ∙ ap (λ t. t ++ r.1.1) (described_bytes d r.1.0 r.0.0 r.1.2) ∙ ap (λ t. parts_bytes r.0.0 ++ t) (described_bytes e r.1.1 r.0.1 r.1.3)
      ∙ sym (parts_append r.0.0 r.0.1) ∙ ap parts_bytes (sym r.2)
  described_bytes (type.Field' s p d) b w r = described_bytes d b w r
  described_bytes (type.Enum' k p cases) b w r = chosen_bytes (tag_bytes k) (cases_read cases) (cases_bytes cases) b w r

  pub cases_bytes : (c : Cases) (t : ℕ) → HasBytes ((cases_read c).case t).reads
  cases_bytes (Last' n p d) t = if_bytes (nat_eq n t) (described_read d) (nameless_read t) (described_bytes d) (λ b w r. absurd r)
  cases_bytes (Case' n p d q others) t = if_bytes (nat_eq n t) (described_read d) ((cases_read others).case t) (described_bytes d) (cases_bytes others t)

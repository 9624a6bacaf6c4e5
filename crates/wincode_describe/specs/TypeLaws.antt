-- The laws of the grammars of described types.
use lib.Ieee.{binary32, binary64}
use Rattle.std.proofs.Common.{◌≡◌, ◌∙◌, sym, ap, ◌^◌, ℕ, Bool, true, false, List, [], ◌∷◌, refl, arith, nat_eq, lit≤}
use Rattle.std.specs.Int.{w8, w16, w32, w64, w128}
use Rattle.wincode_base.specs.ArrayLaws.{array_read_laws}
use Rattle.wincode_base.specs.BoxedLaws.{boxed_read_laws}
use Rattle.wincode_base.specs.Grammar.{ReadGrammar, ReadLaws}
use Rattle.wincode_base.specs.LeafLaws.{number_read_laws, signed_read_laws, bool_read_laws, unit_read_laws}
use Rattle.wincode_base.specs.LengthLaws.{bincode_laws}
use Rattle.wincode_base.specs.Lengths.{SchemeLaws, preallocation_limit}
use Rattle.wincode_base.specs.ListLaws.{list_read_laws}
use Rattle.wincode_base.specs.Made.{IsMadeOnce, made_read, IsNot, AreBits, AreTime, IsSame, is_zero, is_overflow}
use Rattle.wincode_base.specs.MadeLaws.{made_read_laws, one_number}
use Rattle.wincode_base.specs.PairLaws.{pair_read_laws, windowed_read_laws}
use Rattle.wincode_base.specs.ShortLaws.{short_scheme_laws}
use Rattle.wincode_base.specs.StringLaws.{char_read_laws, str_read_laws}
use Rattle.wincode_base.specs.TagLaws.{option_read_laws, result_read_laws}
use Rattle.wincode_describe.specs.Parts.{Part, Flag, Character, Bytes, Nothing}
use Rattle.wincode_describe.specs.ShownGrammars.{shown_read, joined, nameless_read, read_if}
use Rattle.wincode_describe.specs.ShownLaws.{any, any_laws, shown_laws, CasesLaws, one_case_laws, or_case_laws, chosen_laws}
use Rattle.wincode_describe.specs.Types.{natural_shown, signed_shown, integer_read, scheme_of, text_shown, bytes_shown, list_shown, option_shown}
use Rattle.wincode_describe.specs.Types.{zero_shown, AsRead, bits_shown, time_shown, octets_shown, socket_shown}
use Rattle.wincode_describe.specs.Types.{time_read, address_read, socket_read, std_read}
use Rattle.wincode_describe.specs.Types.{result_shown, both_shown, list_of, tag_bytes, described_read, cases_read}
use Rattle.wincode_describe.specs.declared.described.Integer.{Integer}
use Rattle.wincode_describe.specs.declared.described.Integer.TheVariants.{U8, U16, U32, U64, U128, Usize, I8, I16, I32, I64, I128, Isize}
use Rattle.wincode_describe.specs.declared.described.StdType.{StdType}
use Rattle.wincode_describe.specs.declared.described.StdType.TheVariants.{F32, F64, Duration, SystemTime, Ipv4Addr, Ipv6Addr, SocketAddrV4, SocketAddrV6}
use Rattle.wincode_describe.specs.declared.described.LengthScheme.{LengthScheme}
use Rattle.wincode_describe.specs.declared.described.LengthScheme.TheVariants.{Eight, Short}
use Rattle.wincode_describe.specs.declared.described.Described.{Described}
use Rattle.wincode_describe.specs.declared.described.Described.TheVariants as type
use Rattle.wincode_describe.specs.declared.described.Cases.{Cases}
use Rattle.wincode_describe.specs.declared.described.Cases.TheVariants.{Last', Case'}

pub scheme_laws : (s : LengthScheme) → SchemeLaws (scheme_of s)
scheme_laws Eight = bincode_laws preallocation_limit
scheme_laws Short = short_scheme_laws

pub integer_laws : (i : Integer) → ReadLaws any (integer_read i)
integer_laws U8 = shown_laws (natural_shown U8) (number_read_laws 1 true (lit≤ tt))
integer_laws U16 = shown_laws (natural_shown U16) (number_read_laws 2 true (lit≤ tt))
integer_laws U32 = shown_laws (natural_shown U32) (number_read_laws 4 true (lit≤ tt))
integer_laws U64 = shown_laws (natural_shown U64) (number_read_laws 8 true (lit≤ tt))
integer_laws U128 = shown_laws (natural_shown U128) (number_read_laws 16 true (lit≤ tt))
integer_laws Usize = shown_laws (natural_shown Usize) (number_read_laws 8 false (lit≤ tt))
integer_laws I8 = shown_laws (signed_shown I8) (signed_read_laws w8 refl true (lit≤ tt))
integer_laws I16 = shown_laws (signed_shown I16) (signed_read_laws w16 refl true (lit≤ tt))
integer_laws I32 = shown_laws (signed_shown I32) (signed_read_laws w32 refl true (lit≤ tt))
integer_laws I64 = shown_laws (signed_shown I64) (signed_read_laws w64 refl true (lit≤ tt))
integer_laws I128 = shown_laws (signed_shown I128) (signed_read_laws w128 refl true (lit≤ tt))
integer_laws Isize = shown_laws (signed_shown Isize) (signed_read_laws w64 refl false (lit≤ tt))

-- what makes something makes it once, as it was read
pub one_as_read : {X V : Type 0} (see : X → V) (made : X → X → Type 0) → IsMadeOnce see (AsRead made)
one_as_read see made p q r s e h k = ap see h.0 ∙ e ∙ sym (ap see k.0)

module _ {V : Type 0} (show : V → List Part) (made : V → V → Type 0) (text : List ℕ) {is_valid : V → Type 0} {g : ReadGrammar V} where
  as_read_laws : ReadLaws is_valid g → ReadLaws any (shown_read show (made_read (λ v. v) (AsRead made) text g))
  as_read_laws l = shown_laws show (made_read_laws (λ v. v) (AsRead made) text g (one_as_read (λ v. v) made) l)

time_laws : (k : StdType) (limit : ℕ) → ReadLaws any (time_read k limit)
time_laws k limit = as_read_laws (time_shown k) (AreTime limit) is_overflow
    (windowed_read_laws (pair_read_laws (number_read_laws 8 true (lit≤ tt)) (number_read_laws 4 true (lit≤ tt))))

address_laws : (k : StdType) (n : ℕ) → ReadLaws any (address_read k n)
address_laws k n = as_read_laws (octets_shown k) IsSame [] (windowed_read_laws (array_read_laws n _ _ (number_read_laws 1 true (lit≤ tt))))

socket_laws : (k : StdType) (n : ℕ) → ReadLaws any (socket_read k n)
socket_laws k n = as_read_laws (socket_shown k) IsSame []
    (windowed_read_laws (pair_read_laws (windowed_read_laws (array_read_laws n _ _ (number_read_laws 1 true (lit≤ tt)))) (number_read_laws 2 true (lit≤ tt))))

std_laws : (k : StdType) → ReadLaws any (std_read k)
std_laws F32 = as_read_laws (bits_shown F32) (AreBits binary32) [] (number_read_laws 4 true (lit≤ tt))
std_laws F64 = as_read_laws (bits_shown F64) (AreBits binary64) [] (number_read_laws 8 true (lit≤ tt))
std_laws Duration = time_laws Duration (2 ^ 64)
std_laws SystemTime = time_laws SystemTime (2 ^ 63)
std_laws Ipv4Addr = address_laws Ipv4Addr 4
std_laws Ipv6Addr = address_laws Ipv6Addr 16
std_laws SocketAddrV4 = socket_laws SocketAddrV4 4
std_laws SocketAddrV6 = socket_laws SocketAddrV6 16

pub list_laws : (s : LengthScheme) {g : ReadGrammar (List Part)} → ReadLaws any g → ReadLaws any (list_of s g)
list_laws s {g = g} l = shown_laws (list_shown s) (list_read_laws (scheme_of s) (scheme_laws s) 24 (lit≤ tt) any g l)

mutual
  -- of two values' encodings neither begins the other, and a size that is announced is that of each
  pub described_laws : (d : Described) → ReadLaws any (described_read d)
  described_laws (type.Integer i) = integer_laws i
  described_laws (type.NonZero i) = any_laws (made_read_laws (λ v. v) (IsNot (zero_shown i)) is_zero (integer_read i)
      (one_number (λ v. v) (zero_shown i)) (integer_laws i))
  described_laws (type.Std k) = std_laws k
  described_laws type.Bool = shown_laws (λ b. Flag b ∷ []) bool_read_laws
  described_laws type.Char = shown_laws (λ c. Character c ∷ []) char_read_laws
  described_laws type.Unit = shown_laws (λ u. Nothing ∷ []) unit_read_laws
  described_laws type.Text = shown_laws text_shown (str_read_laws 24 0 false (lit≤ tt))
  described_laws (type.ByteList s) = shown_laws (bytes_shown s)
      (list_read_laws (scheme_of s) (scheme_laws s) 24 (lit≤ tt) _ _ (number_read_laws 1 true (lit≤ tt)))
  described_laws (type.ByteArray n) = shown_laws (λ v. Bytes v ∷ []) (windowed_read_laws (array_read_laws n _ _ (number_read_laws 1 true (lit≤ tt))))
  described_laws (type.Option' p d) = shown_laws option_shown (option_read_laws 1 (lit≤ tt) any _ (described_laws d))
  described_laws (type.Result' p d q e) = shown_laws result_shown (result_read_laws 4 (lit≤ tt) any any _ _ (described_laws d) (described_laws e))
  described_laws (type.Boxed' p d) = boxed_read_laws any _ (described_laws d)
  described_laws (type.List' s p d) = list_laws s (described_laws d)
  described_laws (type.Set' p d) = list_laws Eight (described_laws d)
  described_laws (type.Map' p d) = list_laws Eight (described_laws d)
  described_laws (type.Array' n p d) = shown_laws joined (windowed_read_laws (array_read_laws n any _ (described_laws d)))
  described_laws (type.Tuple' p d) = windowed_read_laws (described_laws d)
  described_laws (type.Struct' p d) = windowed_read_laws (described_laws d)
  described_laws (type.Joined' p d q e) = shown_laws both_shown (pair_read_laws (described_laws d) (described_laws e))
  described_laws (type.Field' s p d) = described_laws d
  described_laws (type.Enum' k p cases) = chosen_laws (tag_bytes k) (cases_laws cases)

  pub cases_laws : (c : Cases) → CasesLaws (cases_read c)
  cases_laws (Last' n p d) = one_case_laws n (described_laws d)
  cases_laws (Case' n p d q others) = or_case_laws n (described_laws d) (cases_laws others)

-- ---- no borrow is asked for

integer_borrow : (i : Integer) → (integer_read i).borrow ≡ 0
integer_borrow U8 = refl
integer_borrow U16 = refl
integer_borrow U32 = refl
integer_borrow U64 = refl
integer_borrow U128 = refl
integer_borrow Usize = refl
integer_borrow I8 = refl
integer_borrow I16 = refl
integer_borrow I32 = refl
integer_borrow I64 = refl
integer_borrow I128 = refl
integer_borrow Isize = refl

std_borrow : (k : StdType) → (std_read k).borrow ≡ 0
std_borrow F32 = refl
std_borrow F64 = refl
std_borrow Duration = refl
std_borrow SystemTime = refl
std_borrow Ipv4Addr = refl
std_borrow Ipv6Addr = refl
std_borrow SocketAddrV4 = refl
std_borrow SocketAddrV6 = refl

if_borrow : (b : Bool) (g h : ReadGrammar (List Part)) → g.borrow ≡ 0 → h.borrow ≡ 0 → (read_if b g h).borrow ≡ 0
if_borrow true g h i j = i
if_borrow false g h i j = j

pub described_borrow : (d : Described) → (described_read d).borrow ≡ 0
described_borrow (type.Integer i) = integer_borrow i
described_borrow (type.NonZero i) = integer_borrow i
described_borrow (type.Std k) = std_borrow k
described_borrow type.Bool = refl
described_borrow type.Char = refl
described_borrow type.Unit = refl
described_borrow type.Text = refl
described_borrow (type.ByteList s) = refl
described_borrow (type.ByteArray n) = refl
described_borrow (type.Option' p d) = described_borrow d
described_borrow (type.Result' p d q e) = omega (arith, described_borrow d, described_borrow e)
described_borrow (type.Boxed' p d) = described_borrow d
described_borrow (type.List' s p d) = described_borrow d
described_borrow (type.Set' p d) = described_borrow d
described_borrow (type.Map' p d) = described_borrow d
described_borrow (type.Array' n p d) = described_borrow d
described_borrow (type.Tuple' p d) = described_borrow d
described_borrow (type.Struct' p d) = described_borrow d
described_borrow (type.Joined' p d q e) = omega (arith, described_borrow d, described_borrow e)
described_borrow (type.Field' s p d) = described_borrow d
described_borrow (type.Enum' k p cases) = refl

pub cases_borrow : (c : Cases) (t : ℕ) → ((cases_read c).case t).borrow ≡ 0
cases_borrow (Last' n p d) t = if_borrow (nat_eq n t) (described_read d) (nameless_read t) (described_borrow d) refl
cases_borrow (Case' n p d q others) t = if_borrow (nat_eq n t) (described_read d) ((cases_read others).case t) (described_borrow d) (cases_borrow others t)

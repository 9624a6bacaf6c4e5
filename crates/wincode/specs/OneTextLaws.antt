-- The laws of schemas whose values have one encoding each, and of those that ask for no borrow, from those of their parts.
use Rattle.std.proofs.Common.{◌≡◌, ◌∙◌, sym, ap, subst, ℕ, Bool, true, List, [], ◌∷◌, ◌++◌, length, max, arith, Option, Some, None, Result, Ok, Err}
use Rattle.std.specs.Int.{Width}
use Rattle.std.specs.declared.ops.Bound.{Bound}
use Rattle.std.specs.declared.ops.Bound.TheVariants.{Included, Excluded, Unbounded}
use Rattle.wincode_io.specs.Joins.{Joined}
use Rattle.wincode_io.specs.Numbers.{le}
use Rattle.wincode_io.specs.Writers.{byte_limit}
use Rattle.wincode_base.specs.Arrays.{array_read}
use Rattle.wincode_base.specs.Grammar.{ReadGrammar, ReadRefusal}
use Rattle.wincode_base.specs.Bounds.{bound_tag, IsBoundPart, bound_part_read, bound_read}
use Rattle.wincode_base.specs.Boxed.{boxed_read}
use Rattle.wincode_base.specs.CStrings.{IsText, bytes_seen, c_string_read, is_nul}
use Rattle.wincode_base.specs.InWindow.{windowed_read}
use Rattle.wincode_base.specs.Leaves.{number_read, signed_read, bool_read, unit_read}
use Rattle.wincode_base.specs.Lengths.{Scheme, bincode, preallocation_limit}
use Rattle.wincode_base.specs.Lists.{list_read}
use Rattle.wincode_base.specs.Made.{IsNot, IsSame, made_read}
use Rattle.wincode.specs.OneText.{IsOneText}
use Rattle.wincode_base.specs.Pairs.{pair_read}
use Rattle.wincode_base.specs.Short.{short_read}
use Rattle.wincode_base.specs.Tags.{tagged_read, option_tag, IsOptionPart, option_part_read, option_read, result_tag, IsSidePart, sides_read, result_read}
use Rattle.wincode_base.specs.Strings.{char_read, str_read}
use Rattle.wincode_base.specs.Views.{form_read, lent_read}

-- ---- leaves, whose encoding is a function of the value

pub number_one_text : (k : ℕ) (any : Bool) → IsOneText (number_read k any)
number_one_text k any = record { same = λ a b v p q. p.1 ∙ sym q.1 }

pub signed_one_text : (w : Width) (any : Bool) → IsOneText (signed_read w any)
signed_one_text w any = record { same = λ a b v p q. p.1 ∙ sym q.1 }

pub bool_one_text : IsOneText bool_read
bool_one_text = record { same = λ a b v p q. p ∙ sym q }

pub unit_one_text : IsOneText unit_read
unit_one_text = record { same = λ a b v p q. p ∙ sym q }

pub char_one_text : IsOneText char_read
char_one_text = record { same = λ a b v p q. p.1 ∙ sym q.1 }

pub str_one_text : (prealloc borrow : ℕ) (takes_no_memory : Bool) → IsOneText (str_read prealloc borrow takes_no_memory)
str_one_text prealloc borrow takes_no_memory = record { same = λ a b v p q. p.2 ∙ sym q.2 }

pub short_one_text : IsOneText short_read
short_one_text = record { same = λ a b v p q. p.1 ∙ sym q.1 }

-- ---- parts joined

joined_same : (a b x y u w : List ℕ) → a ≡ x ++ y → b ≡ u ++ w → x ≡ u → y ≡ w → a ≡ b
joined_same a b x y u w p q e f = p ∙ ap (λ t. t ++ y) e ∙ ap (λ t. u ++ t) f ∙ sym q

pub pair_one_text : {V W : Type 0} {g : ReadGrammar V} {h : ReadGrammar W} → IsOneText g → IsOneText h → IsOneText (pair_read g h)
pair_one_text one two = record { same = λ a b v p q. joined_same a b p.0 p.1 q.0 q.1 p.4 q.4 (one.same p.0 q.0 v.0 p.2 q.2) (two.same p.1 q.1 v.1 p.3 q.3) }

-- through a window the encodings are the same
pub windowed_one_text : {V : Type 0} {g : ReadGrammar V} → IsOneText g → IsOneText (windowed_read g)
windowed_one_text one = record { same = one.same }

items_same : {V : Type 0} (g : ReadGrammar V) → IsOneText g → (vs : List V) (a b : List ℕ) → Joined g.reads vs a
    → Joined g.reads vs b → a ≡ b
items_same g one [] a b p q = p ∙ sym q
items_same g one (v ∷ vs) a b p q = joined_same a b p.0 p.1 q.0 q.1 p.4 q.4 (one.same p.0 q.0 v p.2 q.2) (items_same g one vs p.1 q.1 p.3 q.3)

pub array_one_text : {V : Type 0} (n : ℕ) {g : ReadGrammar V} → IsOneText g → IsOneText (array_read n g)
array_one_text n {g = g} one = record { same = λ a b vs p q. items_same g one vs a b p.1 q.1 }

some_same : {A : Type 0} (o : Option A) (x y : A) → o ≡ Some x → o ≡ Some y → x ≡ y
some_same o x y p q = let e : Some x ≡ Some y = sym p ∙ q in cc

-- a scheme gives each length one encoding
pub list_one_text : {V : Type 0} (s : Scheme) (count : ℕ) {g : ReadGrammar V} → IsOneText g → IsOneText (list_read s count g)
list_one_text s count {g = g} one = record {
  same = λ a b vs p q.
      let t = p.1 in
      let u = q.1 in
      joined_same a b t.0 t.1 u.0 u.1 t.4 u.4 (some_same (s.encoding (length vs)) t.0 u.0 t.2 u.2) (items_same g one vs t.1 u.1 t.3 u.3);
}

-- ---- a tag, and then what it names

pub form_one_text : {X : Type 0} (is_valid : X → Type 0) (s : ℕ) (form : X → List ℕ) (any : Bool) (prealloc borrow : ℕ) (refusal : ReadRefusal)
    → IsOneText (form_read is_valid s form any prealloc borrow refusal)
form_one_text is_valid s form any prealloc borrow refusal = record { same = λ a b v p q. p.1 ∙ sym q.1 }

-- a list that is lent has the encodings of one that isn't
pub lent_one_text : {V : Type 0} (borrow s : ℕ) {g : ReadGrammar V} → IsOneText g → IsOneText (lent_read borrow s g)
lent_one_text borrow s {g = g} one = record { same = (list_one_text (bincode byte_limit) 16 one).same }

pub tagged_one_text : {V : Type 0} {refusal : ReadRefusal} (k : ℕ) (tag : V → ℕ) {part : ReadGrammar V} → IsOneText part
    → IsOneText (tagged_read k tag refusal part)
tagged_one_text k tag one = record { same = λ a b v p q. p.2 ∙ ap (λ t. le k (tag v) ++ t) (one.same p.0 q.0 v p.1 q.1) ∙ sym q.2 }

option_same : {V : Type 0} (g : ReadGrammar V) → IsOneText g → (a b : List ℕ) (o : Option V) → IsOptionPart g.reads a o → IsOptionPart g.reads b o → a ≡ b
option_same g one a b None p q = p ∙ sym q
option_same g one a b (Some v) p q = one.same a b v p q

pub option_one_text : {V : Type 0} (k : ℕ) {g : ReadGrammar V} → IsOneText g → IsOneText (option_read k g)
option_one_text k {g = g} one = tagged_one_text k option_tag {part = option_part_read g} (record { same = option_same g one })

sides_same : {V W : Type 0} (g : ReadGrammar V) (h : ReadGrammar W) → IsOneText g → IsOneText h
    → (a b : List ℕ) (r : Result V W) → IsSidePart g.reads h.reads a r → IsSidePart g.reads h.reads b r → a ≡ b
sides_same g h one two a b (Ok v) p q = one.same a b v p q
sides_same g h one two a b (Err w) p q = two.same a b w p q

-- sides without their tag
pub sides_one_text : {V W : Type 0} {g : ReadGrammar V} {h : ReadGrammar W} → IsOneText g → IsOneText h → IsOneText (sides_read g h)
sides_one_text {g = g} {h = h} one two = record { same = sides_same g h one two }

pub result_one_text : {V W : Type 0} (k : ℕ) {g : ReadGrammar V} {h : ReadGrammar W} → IsOneText g → IsOneText h → IsOneText (result_read k g h)
result_one_text k {g = g} {h = h} one two = tagged_one_text k result_tag {part = sides_read g h} (sides_one_text one two)

bound_same : {V : Type 0} (g : ReadGrammar V) → IsOneText g → (a b : List ℕ) (o : Bound V) → IsBoundPart g.reads a o → IsBoundPart g.reads b o → a ≡ b
bound_same g one a b Unbounded p q = p ∙ sym q
bound_same g one a b (Included v) p q = one.same a b v p q
bound_same g one a b (Excluded v) p q = one.same a b v p q

pub bound_one_text : {V : Type 0} {g : ReadGrammar V} → IsOneText g → IsOneText (bound_read g)
bound_one_text {g = g} one = tagged_one_text 4 bound_tag {part = bound_part_read g} (record { same = bound_same g one })

-- ---- what is held

pub boxed_one_text : {V : Type 0} {g : ReadGrammar V} → IsOneText g → IsOneText (boxed_read g)
boxed_one_text one = record { same = one.same }

-- ---- no borrow

-- two parts ask for none, where neither does
pub both_owned : {m n : ℕ} → m ≡ 0 → n ≡ 0 → max m n ≡ 0
both_owned p q = omega (arith, p, q)

-- ---- what is made of parts

-- no two parts make the same
pub made_one_text : {X V : Type 0} (see : X → V) (made : X → X → Type 0) (text : List ℕ) {g : ReadGrammar V}
    → ((p q r s : X) → see q ≡ see s → made p q → made r s → see p ≡ see r) → IsOneText g → IsOneText (made_read see made text g)
made_one_text see made text {g = g} apart one = record {
  same = λ a b w p q. one.same a b (see p.0) p.2 (subst (λ u. g.reads b u) (sym (apart p.0 p.1 q.0 q.1 (p.4 ∙ sym q.4) p.3 q.3)) q.2);
}

pub numbers_apart : {X V : Type 0} (see : X → V) (none p q r s : X) → see q ≡ see s → IsNot none p q → IsNot none r s → see p ≡ see r
numbers_apart see none p q r s e h k = sym (ap see h.0) ∙ e ∙ ap see k.0

pub same_apart : {X V : Type 0} (see : X → V) (p q r s : X) → see q ≡ see s → IsSame p q → IsSame r s → see p ≡ see r
same_apart see p q r s e h k = sym (ap see h) ∙ e ∙ ap see k

-- ---- C strings

pub c_string_one_text : IsOneText c_string_read
c_string_one_text =
    let held = boxed_one_text (list_one_text (bincode preallocation_limit) 24 (number_one_text 1 true)) in
    record { same = (made_one_text bytes_seen IsText is_nul (λ p q r s e h k. sym (ap bytes_seen h.0) ∙ e ∙ ap bytes_seen k.0) held).same }

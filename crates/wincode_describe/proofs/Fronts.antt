-- The token in front.
use Rattle.std.proofs.Common.{◌≡◌, ◌∙◌, sym, ap, refl, ℕ, ◌+◌, ◌<◌, ◌≤◌, ◌^◌, suc, Bool, true, false, nat_lt, cond, ◌&&◌, List, [], ◌∷◌, length}
use Rattle.std.proofs.Common.{get_or, drop, map, Some, None, Err, arith}
use Rattle.std.proofs.Math.Seq.{drop-cons}
use Rattle.std.proofs.lemmas.Bool.{lt-ltb, ltb-true}
use Rattle.std.proofs.lemmas.List.{drop_all, drop-drop, drop-map, length-map}
use Rattle.std.proofs.lemmas.Str.Parse.{IsNumeralModel, numerals_by_value, tells_all_ascii_digits}
use Rattle.std.specs.Str.{all_ascii_digits}
use Rattle.std.specs.Str.Parse.{IsNumeral, ParsesUnsigned, digits_value, without_leading_plus}
use Rattle.std.specs.Result.{OkIff}
use Rattle.wincode_derive_text.specs.Splits.{piece}
use Rattle.wincode_describe.specs.Phrases.{Piece, front_text, number_front, number_in}
use Rattle.wincode_derive_text.specs.declared.tokens.Kind.{Kind}
use Rattle.wincode_derive_text.specs.declared.tokens.Kind.TheVariants as kind
use Rattle.wincode_derive_text.specs.declared.tokens.Token.{Token}

-- a token stands in front of what is left from its place on
pub at_front : (items : List Token) (n : ℕ) (t : Token) → n < length items → t ≡ get_or items n t → drop n (map piece items)
    ≡ piece t ∷ map piece (drop (suc n) items)
at_front items n t l e = drop-map piece n items ∙ ap (map piece) (drop-cons items n t l) ∙ ap (λ (x : Token). piece x ∷ map piece (drop (suc n) items)) (sym e)

-- the text of a token of that kind, and none of any other
pub front_is : (k j : Kind) (text : List ℕ) (rest : List Piece) → j ≡ k → text ≡ front_text k ((j, text) ∷ rest)
front_is kind.Word kind.Word text rest e = refl
front_is kind.Sign kind.Sign text rest e = refl
front_is kind.Lifetime kind.Lifetime text rest e = refl
front_is kind.Literal kind.Literal text rest e = refl
front_is kind.Note kind.Note text rest e = refl
front_is _ _ text rest e = absurd (cc)

pub front_is_none : (k j : Kind) (text : List ℕ) (rest : List Piece) → (j ≡ k → ⊥) → [] ≡ front_text k ((j, text) ∷ rest)
front_is_none kind.Word kind.Word text rest e = absurd (e refl)
front_is_none kind.Sign kind.Sign text rest e = absurd (e refl)
front_is_none kind.Lifetime kind.Lifetime text rest e = absurd (e refl)
front_is_none kind.Literal kind.Literal text rest e = absurd (e refl)
front_is_none kind.Note kind.Note text rest e = absurd (e refl)
front_is_none _ _ text rest e = refl

none_in_front : (k : Kind) → [] ≡ front_text k []
none_in_front kind.Word = refl
none_in_front kind.Sign = refl
none_in_front kind.Lifetime = refl
none_in_front kind.Literal = refl
none_in_front kind.Note = refl

pub nothing_in_front : (k : Kind) (items : List Token) (n : ℕ) → length items ≤ n → [] ≡ front_text k (drop n (map piece items))
nothing_in_front k items n l = rw (drop_all n (map piece items) (simp length-map l)) (none_in_front k)

-- one token more is passed, and none where none is left
pub passed : (xs : List Piece) (n : ℕ) → drop (n + 1) xs ≡ drop 1 (drop n xs)
passed xs n = sym (drop-drop 1 n xs)

pub passed_all : (xs : List Piece) (n : ℕ) → length xs ≤ n → drop n xs ≡ drop 1 (drop n xs)
passed_all xs n l = drop_all n xs l ∙ sym (ap (drop 1) (drop_all n xs l))

own : IsNumeralModel (λ ds. all_ascii_digits ds ≡ true) (digits_value 10)
own = numerals_by_value _ tells_all_ascii_digits

none_of : (a b c : Bool) (n : ℕ) → (a ≡ true → b ≡ true → c ≡ true → ⊥) → cond (a && (b && c)) (Some n) None ≡ None
none_of true true true n h = absurd (h refl refl refl)
none_of true true false n h = refl
none_of true false c n h = refl
none_of false b c n h = refl

-- as what std parses of the digits
no_number : {E : Type 0} → (ds : List ℕ) (x : E) → OkIff (Err x) (IsNumeral 10 ds × (digits_value 10 ds < 2 ^ 64)) (digits_value 10 ds) → number_in ds ≡ None
no_number ds x h = none_of (all_ascii_digits ds) (nat_lt 0 (length ds)) (nat_lt (digits_value 10 ds) (2 ^ 64)) (digits_value 10 ds) (λ p q r.
    h ((ltb-true 0 (length ds) q, own.to ds p), ltb-true (digits_value 10 ds) (2 ^ 64) r))

a_number : (ds : List ℕ) (n : ℕ) → (IsNumeral 10 ds × (digits_value 10 ds < 2 ^ 64)) × (n ≡ digits_value 10 ds) → number_in ds ≡ Some n
a_number ds n h = rw (own.from ds h.0.0.1, lt-ltb 0 (length ds) h.0.0.0, lt-ltb (digits_value 10 ds) (2 ^ 64) h.0.1) (ap Some (sym h.1))

pub number_refused : {E : Type 0} → (ts : List Piece) (x : E) → ParsesUnsigned 64 10 (front_text kind.Word ts) (Err x) → number_front ts ≡ None
number_refused [] x h = refl
number_refused ((kind.Word, []) ∷ rest) x h = refl
number_refused ((kind.Word, c ∷ cs) ∷ rest) x h = rw (no_number (without_leading_plus (c ∷ cs)) x h) refl
number_refused (_ ∷ rest) x h = refl

pub number_taken : (ts : List Piece) (n : ℕ) → (IsNumeral 10 (without_leading_plus (front_text kind.Word ts)) × (digits_value 10 (without_leading_plus (front_text kind.Word ts)) < 2 ^ 64))
    × (n ≡ digits_value 10 (without_leading_plus (front_text kind.Word ts))) → number_front ts ≡ Some (n, drop 1 ts)
number_taken [] n h = absurd (omega (arith, h.0.0.0))
number_taken ((kind.Word, []) ∷ rest) n h = absurd (omega (arith, h.0.0.0))
number_taken ((kind.Word, c ∷ cs) ∷ rest) n h = rw (a_number (without_leading_plus (c ∷ cs)) n h) refl
number_taken (_ ∷ rest) n h = absurd (omega (arith, h.0.0.0))

-- A word in front of what is left.
use Rattle.std.proofs.Common.{◌≡◌, ◌∙◌, ap, refl, ℕ, ◌<◌, nat_lt, ◌==◌, Bool, true, false, not, ◌&&◌, ◌||◌, List, [], ◌∷◌, ◌++◌, length, Option, Some, None, arith}
use Rattle.std.proofs.lemmas.Bool.Decides.{nat_tests}
use Rattle.std.proofs.lemmas.List.{append_assoc, append-nil}
use Rattle.std.proofs.lemmas.Str.{encode_ascii}
use Rattle.std.specs.Char.{encode_utf8, is_ascii_digit}
use Rattle.std.specs.Str.{all_ascii_digits}
use Rattle.std.specs.Prelude.{option_map}
use Rattle.wincode_derive_text.specs.Splits.{Reached, Taken, all_of_word, behind, begun, between, fence_behind, in_front, in_word, kept, of_word, splits, tokens_from}
use Rattle.wincode_derive_text.specs.declared.tokens.Kind.{Kind}
use Rattle.wincode_derive_text.specs.declared.tokens.Kind.TheVariants as kind
use Rattle.wincode_derive_text.specs.declared.tokens.Place.TheVariants as place

pub and_left : (a b : Bool) → (a && b) ≡ true → a ≡ true
and_left true b e = refl
and_left false b e = absurd (cc)

pub and_right : (a b : Bool) → (a && b) ≡ true → b ≡ true
and_right true b e = e
and_right false b e = absurd (cc)

pub ascii_of_word : (c : ℕ) → of_word c ≡ true → c < 128
ascii_of_word c h = grind (arith, nat_tests)

-- a character that ends a word and makes nothing more of it: no quote, no `#` and no `/`
abbrev pub ends_words : ℕ → Bool
ends_words c = nat_lt c 128 && not (of_word c || (c == 34) || (c == 35) || (c == 39) || (c == 47))

no_more : (c : ℕ) → ends_words c ≡ true → (of_word c ≡ false) × ((c == 34) ≡ false) × ((c == 35) ≡ false) × ((c == 39) ≡ false) × ((c == 47) ≡ false)
no_more c h = grind (arith, nat_tests)

ascii_of_end : (c : ℕ) → ends_words c ≡ true → c < 128
ascii_of_end c h = grind (arith, nat_tests)

-- inside a word
abbrev inside : List ℕ → Reached
inside w = record { place = place.Word; word = w; depth = 0; fence = None }

-- a character of a word begins one
begins_word : (c : ℕ) → of_word c ≡ true → begun None c ≡ kept place.Word between c
begins_word c h = grind (arith, nat_tests)

-- What such a character begins is the same behind each word.
colon_alike : (fence : Option ℕ) (cs : List ℕ) → splits (kept place.Colon (behind fence) 58).reached cs ≡ splits (kept place.Colon between 58).reached cs
unfolding encode_utf8
colon_alike fence [] = refl
colon_alike fence (c ∷ cs) = refl

others_alike : (fence : Option ℕ) (c : ℕ) → ends_words c ≡ true → (c == 58) ≡ false → begun fence c ≡ begun None c
others_alike fence c h e =
    let n = no_more c h in
    rw (n.0, n.1, n.3, n.4, e, encode_ascii c (ascii_of_end c h), n.2) refl

alike_if : (fence : Option ℕ) (c : ℕ) (cs : List ℕ) (b : Bool) → (c == 58) ≡ b → ends_words c ≡ true → splits (behind fence) (c ∷ cs) ≡ tokens_from (c ∷ cs)
alike_if fence c cs true e h = let same : c ≡ 58 = grind (arith, nat_tests) in rw same (ap (option_map (λ ts. ts)) (colon_alike fence cs))
alike_if fence c cs false e h =
    let on : Taken → Option (List (Kind × List ℕ)) = λ t. option_map (λ r. t.ended ++ r) (splits t.reached cs) in
    ap on (others_alike fence c h e)

-- a word ends where a character follows that is of none
more_of : (w : List ℕ) (t : Taken) (x : Option (List (Kind × List ℕ))) (ts : List (Kind × List ℕ)) → option_map (λ r. t.ended ++ r) x ≡ Some ts
    → option_map (λ r. ((kind.Word, w) ∷ t.ended) ++ r) x ≡ Some ((kind.Word, w) ∷ ts)
more_of w t None ts e = absurd (cc)
more_of w t (Some r) ts e = let same : t.ended ++ r ≡ ts = cc in ap (λ r. Some ((kind.Word, w) ∷ r)) same

word_ends : (w : List ℕ) (c : ℕ) (cs : List ℕ) (ts : List (Kind × List ℕ)) → ends_words c ≡ true → tokens_from (c ∷ cs) ≡ Some ts → splits (inside w) (c ∷ cs)
    ≡ Some ((kind.Word, w) ∷ ts)
word_ends w c cs ts h e =
    let n = no_more c h in
    let ends : in_word (inside w) c ≡ in_front kind.Word (inside w) c = rw (n.0, n.3) refl in
    let on : Taken → Option (List (Kind × List ℕ)) = λ t. option_map (λ r. t.ended ++ r) (splits t.reached cs) in
    let fence = fence_behind kind.Word w None in
    ap on ends ∙ more_of w (begun fence c) (splits (begun fence c).reached cs) ts (alike_if fence c cs (c == 58) refl h ∙ e)

-- a word goes on
word_on : (v w : List ℕ) (c : ℕ) (cs : List ℕ) (ts : List (Kind × List ℕ)) → all_of_word v ≡ true → ends_words c ≡ true → tokens_from (c ∷ cs) ≡ Some ts
    → splits (inside w) (v ++ (c ∷ cs)) ≡ Some ((kind.Word, w ++ v) ∷ ts)
word_on [] w c cs ts all h e = rw (append-nil w) (word_ends w c cs ts h e)
word_on (d ∷ ds) w c cs ts all h e =
    let first = and_left (of_word d) (all_of_word ds) all in
    let others = and_right (of_word d) (all_of_word ds) all in
    let on = word_on ds (w ++ d ∷ []) c cs ts others h e in
    let same : (w ++ d ∷ []) ++ ds ≡ w ++ (d ∷ ds) = append_assoc w (d ∷ []) ds in
    rw (first, encode_ascii d (ascii_of_word d first), on, same) refl

-- a word in front of what is left, which begins with a character that ends it
pub word_before : (v : List ℕ) (c : ℕ) (cs : List ℕ) (ts : List (Kind × List ℕ)) → 0 < length v → all_of_word v ≡ true → ends_words c ≡ true
    → tokens_from (c ∷ cs) ≡ Some ts → tokens_from (v ++ (c ∷ cs)) ≡ Some ((kind.Word, v) ∷ ts)
word_before [] c cs ts some all h e = absurd (omega arith)
word_before (d ∷ ds) c cs ts some all h e =
    let first = and_left (of_word d) (all_of_word ds) all in
    let others = and_right (of_word d) (all_of_word ds) all in
    rw (begins_word d first, encode_ascii d (ascii_of_word d first), word_on ds (d ∷ []) c cs ts others h e) refl

-- digits are of words
digit_of_word : (c : ℕ) → is_ascii_digit c ≡ true → of_word c ≡ true
digit_of_word c h = grind (arith, nat_tests)

pub digits_of_word : (ds : List ℕ) → all_ascii_digits ds ≡ true → all_of_word ds ≡ true
digits_of_word [] h = refl
digits_of_word (c ∷ cs) h = rw (
  digit_of_word c (and_left (is_ascii_digit c) (all_ascii_digits cs) h),
  digits_of_word cs (and_right (is_ascii_digit c) (all_ascii_digits cs) h),
) refl

-- Tokens that are taken one after another.
use Rattle.std.proofs.Common.{◌≡◌, ◌∙◌, sym, ap, subst, ℕ, ◌+◌, ◌<◌, List, [], ◌∷◌, ◌++◌, map, length, drop, get_or, append_assoc, add-one, suc}
use Rattle.std.proofs.Common.{Option, Some, None, Result, Ok, Err, refl, arith}
use Rattle.std.proofs.Math.Seq.{drop-cons}
use Rattle.std.proofs.lemmas.List.{append-nil, drop_all}
use Rattle.std.specs.Prelude.{option_map, option_and_then}
use Rattle.std.specs.String.{string_bytes}
use Rattle.wincode_derive_text.specs.Splits.{Taken, Takes, TakesIfKnown, begun, between, ended, fence_behind, in_front, none_left, piece, reached, splits, taken}
use Rattle.wincode_derive_text.specs.Splits.{tokens_in, Splits}
use Rattle.wincode_derive_text.specs.declared.error.DeriveError.{DeriveError}
use Rattle.wincode_derive_text.specs.declared.error.DeriveError.TheVariants.{OutOfMemory}
use Rattle.wincode_derive_text.specs.declared.tokens.Kind.{Kind}
use Rattle.wincode_derive_text.specs.declared.tokens.Lexer.{Lexer}
use Rattle.wincode_derive_text.specs.declared.tokens.Place.{Place}
use Rattle.wincode_derive_text.specs.declared.tokens.Place.TheVariants as place

-- a token, and then what a character behind it begins
pub takes_both : (old middle new : Lexer) (k : Kind) (c : ℕ) (r : Result Unit DeriveError) → Takes old middle (Ok tt) (ended k (string_bytes old.word) old.fence)
    → Takes middle new r (begun middle.fence c) → Takes old new r (in_front k (reached old) c)
takes_both old middle new k c (Ok u) e h =
    let f : middle.fence ≡ fence_behind k (string_bytes old.word) old.fence = ap (λ r. r.fence) e.1 in
    let next : Takes middle new (Ok u) (begun (fence_behind k (string_bytes old.word) old.fence) c) = rw f at h in
    let t = begun (fence_behind k (string_bytes old.word) old.fence) c in (
      next.0 ∙ ap (λ ts. ts ++ t.ended) e.0 ∙ append_assoc (map piece old.tokens.items) ((k, string_bytes old.word) ∷ []) t.ended,
      next.1,
    )
takes_both old middle new k c (Err x) e h = h

-- no memory, whatever was reached
pub refused_so : (old middle new : Lexer) (x : DeriveError) (t : Option Taken) → TakesIfKnown old middle (Err x) t → TakesIfKnown old new (Err x) t
refused_so old middle new x None h = tt
refused_so old middle new x (Some t) h = h

-- the tokens so far and those of what is left are all of them
abbrev pub Left : Lexer → List ℕ → Option (List (Kind × List ℕ)) → Type 0
Left lexer cs None = Unit
Left lexer cs (Some all) = (more : List (Kind × List ℕ)) × (splits (reached lexer) cs ≡ Some more)
    × (map piece lexer.tokens.items ++ more ≡ all)

-- what is left behind one more character
split_one : (t : Taken) (more : List (Kind × List ℕ)) (rest : Option (List (Kind × List ℕ))) → option_map (λ ts. t.ended ++ ts) rest ≡ Some more
    → (ts : List (Kind × List ℕ)) × (rest ≡ Some ts) × (t.ended ++ ts ≡ more)
split_one t more None e = absurd (cc)
split_one t more (Some ts) e = (ts, refl, cc)

left_with : (old new : Lexer) (cs : List ℕ) (all more : List (Kind × List ℕ)) (u : Unit) (t : Option Taken)
    → option_and_then (λ t. option_map (λ ts. t.ended ++ ts) (splits t.reached cs)) t ≡ Some more → map piece old.tokens.items ++ more
    ≡ all → TakesIfKnown old new (Ok u) t → Left new cs (Some all)
left_with old new cs all more u None e h k = absurd (cc)
left_with old new cs all more u (Some t) e h k =
    let s = split_one t more (splits t.reached cs) e in (
      s.0,
      ap (λ r. splits r cs) k.1 ∙ s.1,
      ap (λ ts. ts ++ s.0) k.0 ∙ append_assoc (map piece old.tokens.items) t.ended s.0
          ∙ ap (λ ts. map piece old.tokens.items ++ ts) s.2 ∙ h,
    )

pub left_step : (old new : Lexer) (c : ℕ) (cs : List ℕ) (all : Option (List (Kind × List ℕ))) (u : Unit) → Left old (c ∷ cs) all
    → TakesIfKnown old new (Ok u) (taken (reached old) c) → Left new cs all
left_step old new c cs None u h k = tt
left_step old new c cs (Some all) u h k = left_with old new cs all h.0 u (taken (reached old) c) h.1 h.2 k

-- nothing but memory is refused
refused_with : (old new : Lexer) (cs : List ℕ) (more : List (Kind × List ℕ)) (x : DeriveError) (t : Option Taken)
    → option_and_then (λ t. option_map (λ ts. t.ended ++ ts) (splits t.reached cs)) t ≡ Some more → TakesIfKnown old new (Err x) t → x
    ≡ OutOfMemory
refused_with old new cs more x None e k = absurd (cc)
refused_with old new cs more x (Some t) e k = k

pub left_refused : (old new : Lexer) (c : ℕ) (cs : List ℕ) (all : Option (List (Kind × List ℕ))) (x : DeriveError) → Left old (c ∷ cs) all
    → TakesIfKnown old new (Err x) (taken (reached old) c) → Splits all (Err x)
left_refused old new c cs None x h k = tt
left_refused old new c cs (Some all) x h k = refused_with old new cs h.0 x (taken (reached old) c) h.1 k

-- Nothing is left: all tokens are there, and none is being read.
ended_at : (p : Place) (more : List (Kind × List ℕ)) → none_left p ≡ Some more → (p ≡ place.Between) × (more ≡ [])
ended_at place.Between more e = (refl, cc)
ended_at _ more e = absurd (cc)

pub left_ended : (lexer : Lexer) (all : Option (List (Kind × List ℕ))) → Left lexer [] all → Splits all (Ok lexer.tokens)
left_ended lexer None h = tt
left_ended lexer (Some all) h =
    let e = ended_at lexer.place h.0 h.1 in
    sym (append-nil (map piece lexer.tokens.items)) ∙ ap (λ ts. map piece lexer.tokens.items ++ ts) (sym e.1) ∙ h.2

pub left_not_between : (lexer : Lexer) (all : Option (List (Kind × List ℕ))) (x : DeriveError) → Left lexer [] all → ¬ (lexer.place ≡ place.Between)
    → Splits all (Err x)
left_not_between lexer None x h k = tt
left_not_between lexer (Some all) x h k = let e = ended_at lexer.place h.0 h.1 in absurd (k e.0)

-- the next character, and what is left behind it
pub left_turn : (lexer : Lexer) (cs : List ℕ) (n c : ℕ) (all : Option (List (Kind × List ℕ))) → (n < length cs) × (c ≡ get_or cs n c)
    → Left lexer (drop n cs ++ 10 ∷ []) all → Left lexer (c ∷ (drop (n + 1) cs ++ 10 ∷ [])) all
left_turn lexer cs n c all t h =
    let P : List ℕ → Type 0 = λ ds. Left lexer (ds ++ 10 ∷ []) all in
    let e : drop n cs ≡ c ∷ drop (n + 1) cs = rw add-one (drop-cons cs n c t.0 ∙ ap (λ x. x ∷ drop (suc n) cs) (sym t.1)) in
    subst P e h

-- behind the last character
pub left_last : (lexer : Lexer) (cs : List ℕ) (n : ℕ) (all : Option (List (Kind × List ℕ))) → n ≡ length cs → Left lexer (drop n cs ++ 10 ∷ []) all
    → Left lexer (10 ∷ []) all
left_last lexer cs n all t h =
    let P : List ℕ → Type 0 = λ ds. Left lexer (ds ++ 10 ∷ []) all in
    subst P (drop_all n cs (omega arith)) h

first_of : (lexer : Lexer) (cs : List ℕ) (all : Option (List (Kind × List ℕ))) → lexer.tokens.items ≡ [] → splits (reached lexer) cs ≡ all → Left lexer cs all
first_of lexer cs None e h = tt
first_of lexer cs (Some all) e h = (all, h, ap (λ ts. map piece ts ++ all) e)

-- in front of the first character
pub left_first : (lexer : Lexer) (cs : List ℕ) → lexer.tokens.items ≡ [] → reached lexer ≡ between → Left lexer (cs ++ 10 ∷ []) (tokens_in cs)
left_first lexer cs no_tokens at_first = first_of lexer (cs ++ 10 ∷ []) (tokens_in cs) no_tokens (ap (λ r. splits r (cs ++ 10 ∷ [])) at_first)

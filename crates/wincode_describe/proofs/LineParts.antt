-- The pieces of a line, one behind another.
use Rattle.std.proofs.Common.{◌≡◌, ◌∙◌, refl, ap, subst, arith, ℕ, ◌+◌, zero, suc, List, [], ◌∷◌, ◌++◌, map, append_assoc, decimal, codes, if◌then◌else◌, Result, Ok, Err}
use Rattle.std.specs.Prelude.{OnOk, MatchOption, String, get_or}
use Rattle.std.specs.List.{slice_get}
use Rattle.std.specs.String.{string_bytes}
use Rattle.std.specs.Result.{is_ok}
use Rattle.wincode_describe.specs.Lines.{IsLine, IsRefusal, AreLines, spaced}
use Rattle.wincode_describe.specs.declared.spans.Span.{Span}

seven : (a b c d e f g h : List ℕ) → ((((a ++ (b ++ (c ++ d))) ++ e) ++ f) ++ g) ++ h ≡ a ++ (b ++ (c ++ (d ++ (e ++ (f ++ (g ++ h))))))
seven a b c d e f g h =
    append_assoc (((a ++ (b ++ (c ++ d))) ++ e) ++ f) g h
    ∙ append_assoc ((a ++ (b ++ (c ++ d))) ++ e) f (g ++ h)
    ∙ append_assoc (a ++ (b ++ (c ++ d))) e (f ++ (g ++ h))
    ∙ append_assoc a (b ++ (c ++ d)) (e ++ (f ++ (g ++ h)))
    ∙ ap (λ t. a ++ t) (append_assoc b (c ++ d) (e ++ (f ++ (g ++ h))) ∙ ap (λ t. b ++ t) (append_assoc c d (e ++ (f ++ (g ++ h)))))

pub line_of : (n : ℕ) (place digits space value end begin t0 t1 t2 t3 t4 t5 : List ℕ) → begin ≡ decimal n ++ (codes ": " ++ digits) → t1 ≡ t0 ++ begin → t2
    ≡ t1 ++ spaced place → t3 ≡ t2 ++ space → t4 ≡ t3 ++ value → t5 ≡ t4 ++ end
    → IsLine n place t0 t5
line_of n place digits space value end begin t0 t1 t2 t3 t4 t5 b e1 e2 e3 e4 e5 = (
  digits,
  space ++ (value ++ end),
  e5 ∙ ap (λ t. t ++ end) (e4 ∙ ap (λ t. t ++ value) (e3 ∙ ap (λ t. t ++ space) (e2 ∙ ap (λ t. t ++ spaced place) (e1 ∙ ap (λ t. t0 ++ t) b))))
      ∙ seven t0 (decimal n) (codes ": ") digits (spaced place) space value end,
)

-- what stands there if all went well, where it did
pub where_ok : {T E : Type 0} (r : Result T E) (x y new : List ℕ) → new ≡ (if is_ok r then x else y) → OnOk r (new ≡ x)
where_ok (Ok a) x y new e = e
where_ok (Err a) x y new e = tt

-- what stands at that number is the place with it
pub place_is : {Z : Type 0} (places : List (String Z)) (i : ℕ) (place : List ℕ)
    → MatchOption (slice_get places i) (place ≡ []) (λ found. place ≡ string_bytes found) → place ≡ get_or (map string_bytes places) i []
place_is [] i place h = h
place_is (p ∷ ps) zero place h = h
place_is (p ∷ ps) (suc i) place h = place_is ps i place h

-- a refusal is that of the same offset and place
pub same_refusal : (n m : ℕ) (p q old new : List ℕ) → n ≡ m → p ≡ q → IsRefusal n p old new → IsRefusal m q old new
same_refusal n m p q old new e f h = (
  h.0,
  h.1 ∙ ap (λ k. old ++ (decimal k ++ (codes ":" ++ (spaced p ++ h.0)))) e ∙ ap (λ r. old ++ (decimal m ++ (codes ":" ++ (spaced r ++ h.0)))) f,
)

-- so is a line, and so are lines
same_line : (n m : ℕ) (p q old new : List ℕ) → n ≡ m → p ≡ q → IsLine n p old new → IsLine m q old new
same_line n m p q old new e f h = subst (λ r. IsLine m r old new) f (subst (λ k. IsLine k p old new) e h)

pub same_lines : (a b : List ℕ) (p q : List (List ℕ)) (n m : ℕ) (text : List ℕ) → a ≡ b → p ≡ q → n ≡ m → AreLines a p n text → AreLines b q m text
same_lines a b p q n m text e f g h =
    subst (λ k. AreLines b q k text) g (subst (λ r. AreLines b r n text) f (subst (λ r. AreLines r p n text) e h))

-- the span with that number begins at the offset with it
offset_is : (spans : List Span) (i : ℕ) → (get_or spans i (record { offset = 0; size = 0 })).offset ≡ get_or (map (λ t. t.offset) spans) i 0
offset_is [] i = refl
offset_is (t ∷ ts) zero = refl
offset_is (t ∷ ts) (suc i) = offset_is ts i

-- one line more, behind others
pub lines_more : {Z : Type 0} (spans : List Span) (places : List (String Z)) (i : ℕ) (place old new : List ℕ)
    → MatchOption (slice_get places i) (place ≡ []) (λ found. place ≡ string_bytes found)
    → AreLines (map (λ t. t.offset) spans) (map string_bytes places) i old
    → IsLine (get_or spans i (record { offset = 0; size = 0 })).offset place old new
    → AreLines (map (λ t. t.offset) spans) (map string_bytes places) (i + 1) new
lines_more spans places i place old new p so line =
    let next : suc i ≡ i + 1 = omega arith in
    subst (λ n. AreLines (map (λ t. t.offset) spans) (map string_bytes places) n new) next
    (old, so, same_line _ _ place _ old new (offset_is spans i) (place_is places i place p) line)

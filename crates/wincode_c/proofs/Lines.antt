-- Lines of texts.
use Rattle.std.proofs.Common.{◌≡◌, ◌∙◌, sym, ap, ℕ, zero, suc, ◌+◌, ◌-◌, ◌<◌, ◌≤◌, List, [], ◌∷◌, length, drop, refl, nat_eq, arith}
use Rattle.std.proofs.lemmas.Bool.{cases_Bool}
use Rattle.std.proofs.Common.{inl, inr}
use Rattle.std.proofs.Math.Seq.{drop-drop}
use Rattle.std.proofs.lemmas.List.{length-drop}
use Rattle.wincode_c.specs.Pages.{line_length, behind_lines}

pub within : (text : List ℕ) → line_length text ≤ length text
within [] = omega arith
within (c ∷ cs) = elim (cases_Bool (nat_eq c 10)) [ inl b ↦ rw b (omega arith) | inr b ↦ rw b (omega (arith, within cs)) ]

pub none_behind : (n : ℕ) → behind_lines n [] ≡ []
none_behind zero = refl
none_behind (suc n) = none_behind n

-- one line more
pub behind_more : (n : ℕ) (text : List ℕ) → behind_lines (suc n) text ≡ drop (line_length (behind_lines n text)) (behind_lines n text)
behind_more zero text = refl
behind_more (suc n) text = behind_more n (drop (line_length text) text)

pub some_line : (text : List ℕ) → 0 < length text → 0 < line_length text
some_line [] l = absurd (omega (arith, l))
some_line (c ∷ cs) l = omega arith

-- nothing is left, behind however many lines
pub at_end : (n : ℕ) (rest text : List ℕ) → length rest ≡ 0 → behind_lines n rest ≡ text → rest ≡ text
at_end n [] text none q = sym (none_behind n) ∙ q
at_end n (c ∷ cs) text none q = absurd (omega (arith, none))

-- one line less is wanted behind the first
pub line_gone : (n i k : ℕ) (rest text : List ℕ) → i < n → k ≡ line_length rest → behind_lines (n - i) rest ≡ text → behind_lines (n - (i + 1)) (drop k rest) ≡ text
line_gone n i k rest text l is q =
    let less : n - i ≡ suc (n - (i + 1)) = omega (arith, l) in
    ap (λ j. behind_lines (n - (i + 1)) (drop j rest)) is ∙ ap (λ m. behind_lines m rest) (sym less) ∙ q

-- one line more is taken
pub line_taken : (taken lines next room : ℕ) (text : List ℕ) → drop taken text ≡ behind_lines lines text → taken < length text → next ≡ line_length (drop taken text)
    → next ≤ room - taken → taken ≤ room → lines ≤ taken
    → (drop (taken + next) text ≡ behind_lines (lines + 1) text) × (taken + next ≤ length text) × (taken + next ≤ room) × (lines + 1 ≤ taken + next)
line_taken taken lines next room text q some is fits small few =
    let left : length (drop taken text) ≡ length text - taken = length-drop taken text in
    let one : 0 < line_length (drop taken text) = some_line (drop taken text) (omega (arith, left, some)) in
    let most : line_length (drop taken text) ≤ length (drop taken text) = within (drop taken text) in
    let more : lines + 1 ≡ suc lines = omega arith in (
      sym (drop-drop next taken text) ∙ ap (λ j. drop j (drop taken text)) is ∙ ap (λ t. drop (line_length t) t) q ∙ sym (behind_more lines text)
          ∙ ap (λ m. behind_lines m text) (sym more),
      omega (arith, left, most, is, some),
      omega (arith, fits, small),
      omega (arith, one, is, few),
    )

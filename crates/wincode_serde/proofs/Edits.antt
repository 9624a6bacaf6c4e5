-- Edits of forms behind their number, in the bytes where they stand.
use Rattle.std.proofs.Common.{◌≡◌, ◌∙◌, sym, ap, subst, ℕ, ◌-◌, ◌*◌, ◌<◌, ◌≤◌, ◌^◌, List, [], ◌∷◌, ◌++◌, length, refl, take, drop, arith, length-take}
use Rattle.std.proofs.Common.{length-drop, take-append-drop}
use Rattle.std.specs.List.{All}
use Rattle.std.proofs.lemmas.List.Elements.{All-head, All-tail}
use borrow.Rule.Slice.PartMut.{put_mid}
use Rattle.wincode_io.specs.Bytes.{IsBytes}
use Rattle.wincode_io.specs.Edits.{all_edited, in_places, in_first}
use Rattle.wincode_io.specs.Forms.{IsByteForm, edited}
use Rattle.wincode_io.specs.JoinedForms.{IsBytes-take}
use Rattle.wincode_io.specs.NumberLaws.{worth_within, le-worth_within}
use Rattle.wincode_io.specs.Numbers.{le, worth}
use Rattle.wincode_io.proofs.EditSteps.{values_all_edited, edited_whole}
use Rattle.wincode_serde.specs.Edits.{HasForms, HasCount, EditedInPlace, last_of}

module _ (b : List ℕ) (all : IsBytes b) (long : 8 ≤ length b) (n : ℕ) (is : n ≡ worth (take 8 b)) where
  pub number_size : length (take 8 b) ≡ 8
  number_size = omega (arith, length-take 8 b, long)

  pub number_is : take 8 b ≡ le 8 n
  number_is = sym (ap (le 8) is ∙ le-worth_within 8 (take 8 b) (IsBytes-take 8 b all) number_size)

  pub number_few : n < 2 ^ 64
  number_few = subst (λ m. m < 2 ^ 64) (sym is) (worth_within 8 (take 8 b) (IsBytes-take 8 b all) number_size)

  pub number_joins : b ≡ le 8 n ++ drop 8 b
  number_joins = sym (take-append-drop 8 b) ∙ ap (λ x. x ++ drop 8 b) number_is

  abbrev pub has_count : HasCount b
  has_count = record { count = n; more = drop 8 b; few = number_few; joins = number_joins }

  pub left_of : length (drop 8 b) ≡ length b - 8
  left_of = length-drop 8 b

  module _ (s t : ℕ) (sized : t ≡ n * s) (fits : t ≤ length b - 8) where
    abbrev pub has_forms : HasForms s b
    has_forms = record {
      count = n;
      forms = take t (drop 8 b);
      more = drop t (drop 8 b);
      few = number_few;
      size = omega (arith, length-take t (drop 8 b), length-drop 8 b, fits, sized);
      joins = number_joins ∙ ap (λ x. le 8 n ++ x) (sym (take-append-drop t (drop 8 b)));
    }

    -- `k` is t, as the length of a part of the bytes is counted
    pub edited_in_place : {X : Type 0} {is_valid : X → Type 0} {form : X → List ℕ} {value : List ℕ → X} → IsByteForm is_valid s form value
        → (es : List (ℕ × X)) → All (λ e. e.0 < n) es → All (λ e. is_valid e.1) es
        → (k : ℕ) → k ≡ t → (forms : List ℕ) → forms ≡ all_edited s (take k (drop 8 b)) (in_places form es)
        → EditedInPlace s form value b es (put_mid 8 k b forms)
    edited_in_place {form = form} law es within is_valid k same forms e = record {
      has = has_forms;
      within = within;
      is = ap (λ x. x ++ (forms ++ drop k (drop 8 b))) number_is ∙ ap (λ x. le 8 n ++ (x ++ drop k (drop 8 b))) e
          ∙ ap (λ m. le 8 n ++ (all_edited s (take m (drop 8 b)) (in_places form es) ++ drop m (drop 8 b))) same;
      values_are = values_all_edited law n (take t (drop 8 b)) es within is_valid has_forms.size;
    }

-- a form reads as the last of the values that were put over it
pub last_is : {X : Type 0} {is_valid : X → Type 0} {s : ℕ} {form : X → List ℕ} {value : List ℕ → X} → IsByteForm is_valid s form value → (first : List ℕ)
    → length first ≡ s → (news : List X) → All is_valid news
    → value (all_edited s first (in_first form news)) ≡ last_of (value first) news
unfolding all_edited
last_is law first size [] all = refl
last_is {is_valid = is_valid} {s = s} {form = form} {value = value} law first size (v ∷ vs) all =
    let here : is_valid v = All-head is_valid v vs all in
    let whole : form v ≡ edited s first 0 (form v) = edited_whole s first (form v) size in
    ap (λ b. value (all_edited s b (in_first form vs))) (sym whole) ∙ last_is law (form v) (law.long v here) vs (All-tail is_valid v vs all)
    ∙ ap (λ x. last_of x vs) (law.value_form v here)

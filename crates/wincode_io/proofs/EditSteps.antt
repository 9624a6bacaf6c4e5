-- Edits of forms: one more behind others, and what they make of the values.
use Rattle.std.specs.Prelude.{slice_set}
use Rattle.std.specs.List.{All}
use Rattle.std.proofs.Common.{◌≡◌, ℕ, ◌+◌, ◌*◌, ◌<◌, ◌≤◌, List, [], ◌∷◌, ◌++◌, length, take, drop, refl}
use Rattle.std.proofs.Common.{sym, ap, subst, ◌∙◌, arith, get_or, zero, suc, length-append, length-take, length-drop, append_assoc, append-nil}
use Rattle.std.proofs.Common.{take-append-drop}
use Rattle.std.proofs.lemmas.List.{map_more, take_more, take_at, drop_at, drop-drop, drop_all}
use Rattle.std.proofs.lemmas.List.Elements.{All-head, All-tail, All-append}
use Rattle.std.proofs.Math.Seq.{take-append-add}
use Rattle.wincode_io.specs.Forms.{IsByteForm, values, edited}
use Rattle.wincode_io.specs.Edits.{all_edited, in_places, in_first, all_set}
use Rattle.wincode_io.proofs.FormSteps.{place_fits}

-- ---- one edit more, behind the others

pub all_edited_push : (s : ℕ) (b : List ℕ) (es : List (ℕ × List ℕ)) (e : ℕ × List ℕ) → all_edited s b (es ++ e ∷ []) ≡ edited s (all_edited s b es) e.0 e.1
unfolding all_edited
all_edited_push s b [] e = refl
all_edited_push s b (x ∷ es) e = all_edited_push s (edited s b x.0 x.1) es e

module _ {X : Type 0} (s : ℕ) (form : X → List ℕ) (b : List ℕ) where
  pub in_places_more : (es : List (ℕ × X)) (i : ℕ) (d : ℕ × X) → i < length es
      → all_edited s b (in_places form (take (i + 1) es)) ≡ edited s (all_edited s b (in_places form (take i es))) (get_or es i d).0 (form (get_or es i d).1)
  in_places_more es i d h =
      ap (all_edited s b) (map_more (λ e. (e.0, form e.1)) es i d h)
      ∙ all_edited_push s b (in_places form (take i es)) ((get_or es i d).0, form (get_or es i d).1)

  pub in_first_more : (vs : List X) (i : ℕ) (d : X) → i < length vs
      → all_edited s b (in_first form (take (i + 1) vs)) ≡ edited s (all_edited s b (in_first form (take i vs))) 0 (form (get_or vs i d))
  in_first_more vs i d h =
      ap (all_edited s b) (map_more (λ v. (0, form v)) vs i d h)
      ∙ all_edited_push s b (in_first form (take i vs)) (0, form (get_or vs i d))

-- an edit of all that is there
pub edited_whole : (s : ℕ) (b f : List ℕ) → length b ≡ s → f ≡ edited s b 0 f
edited_whole s b f h =
    let z : 0 ≡ 0 * s = omega arith in
    sym (append-nil f) ∙ ap (λ x. f ++ x) (sym (drop_all s b (omega arith))) ∙ ap (λ i. take i b ++ (f ++ drop s (drop i b))) z

-- ---- what edits make of the values

length-edited : (s k : ℕ) (b f : List ℕ) → k * s + s ≤ length b → length f ≡ s → length (edited s b k f) ≡ length b
length-edited s k b f h e =
    omega (
      arith,
      h,
      e,
      length-append (take (k * s) b) (f ++ drop s (drop (k * s) b)),
      length-append f (drop s (drop (k * s) b)),
      length-take (k * s) b,
      length-drop s (drop (k * s) b),
      length-drop (k * s) b,
    )

edited_first : (s : ℕ) (p q f : List ℕ) → length p ≡ s → edited s (p ++ q) 0 f ≡ f ++ q
edited_first s p q f e =
    let z : 0 * s ≡ 0 = omega arith in
    ap (λ i. take i (p ++ q) ++ (f ++ drop s (drop i (p ++ q)))) z ∙ ap (λ x. f ++ x) (drop_at p q s e)

edited_behind : (s k : ℕ) (p q f : List ℕ) → length p ≡ s → edited s (p ++ q) (suc k) f ≡ p ++ edited s q k f
edited_behind s k p q f e =
    let sum : suc k * s ≡ s + k * s = omega arith in
    let front : take (s + k * s) (p ++ q) ≡ p ++ take (k * s) q = ap (λ n. take (n + k * s) (p ++ q)) (sym e) ∙ take-append-add p q (k * s) in
    let back : drop (s + k * s) (p ++ q) ≡ drop (k * s) q = sym (drop-drop (k * s) s (p ++ q)) ∙ ap (drop (k * s)) (drop_at p q s e) in
    ap (λ n. take n (p ++ q) ++ (f ++ drop s (drop n (p ++ q)))) sum
    ∙ ap (λ x. x ++ (f ++ drop s (drop (s + k * s) (p ++ q)))) front
    ∙ ap (λ x. (p ++ take (k * s) q) ++ (f ++ drop s x)) back
    ∙ append_assoc p (take (k * s) q) (f ++ drop s (drop (k * s) q))

module _ {X : Type 0} {is_valid : X → Type 0} {s : ℕ} {form : X → List ℕ} {value : List ℕ → X} (law : IsByteForm is_valid s form value) where
  values_edited : (n : ℕ) (b : List ℕ) (k : ℕ) (v : X) → k < n → length b ≡ n * s → is_valid v → values value s n (edited s b k (form v))
      ≡ slice_set (values value s n b) k v
  unfolding values
  values_edited zero b k v h e p = absurd (omega (arith, h))
  values_edited (suc n) b zero v h e p =
      let long = law.long v p in
      let front : length (take s b) ≡ s = omega (arith, length-take s b, e) in
      let is : edited s b 0 (form v) ≡ form v ++ drop s b = ap (λ x. edited s x 0 (form v)) (sym (take-append-drop s b))
      ∙ edited_first s (take s b) (drop s b) (form v) front in
      ap (λ x. value (take s x) ∷ values value s n (drop s x)) is
      ∙ ap (λ t. value t ∷ values value s n (drop s (form v ++ drop s b))) (take_at (form v) (drop s b) s long)
      ∙ ap (λ t. value (form v) ∷ values value s n t) (drop_at (form v) (drop s b) s long)
      ∙ ap (λ x. x ∷ values value s n (drop s b)) (law.value_form v p)
  values_edited (suc n) b (suc k) v h e p =
      let front : length (take s b) ≡ s = omega (arith, length-take s b, e) in
      let rest : length (drop s b) ≡ n * s = omega (arith, length-drop s b, e) in
      let more = edited s (drop s b) k (form v) in
      let is : edited s b (suc k) (form v) ≡ take s b ++ more =
      ap (λ x. edited s x (suc k) (form v)) (sym (take-append-drop s b)) ∙ edited_behind s k (take s b) (drop s b) (form v) front in
      ap (λ x. value (take s x) ∷ values value s n (drop s x)) is
      ∙ ap (λ t. value t ∷ values value s n (drop s (take s b ++ more))) (take_at (take s b) more s front)
      ∙ ap (λ t. value (take s b) ∷ values value s n t) (drop_at (take s b) more s front)
      ∙ ap (λ ys. value (take s b) ∷ ys) (values_edited n (drop s b) k v (omega (arith, h)) rest p)

  pub length-all_edited : (n : ℕ) (b : List ℕ) (es : List (ℕ × X)) → All (λ e. e.0 < n) es → All (λ e. is_valid e.1) es → length b ≡ n * s
      → length (all_edited s b (in_places form es)) ≡ n * s
  unfolding all_edited
  length-all_edited n b [] within valid_all e = e
  length-all_edited n b (x ∷ es) within valid_all e =
      let here = All-head (λ e. e.0 < n) x es within in
      let p = All-head (λ e. is_valid e.1) x es valid_all in
      let fits = place_fits x.0 n s here in
      let same : length (edited s b x.0 (form x.1)) ≡ n * s = length-edited s x.0 b (form x.1) (omega (arith, fits, e)) (law.long x.1 p) ∙ e in
      length-all_edited n (edited s b x.0 (form x.1)) es (All-tail (λ e. e.0 < n) x es within) (All-tail (λ e. is_valid e.1) x es valid_all) same

  -- the values are those that were there, with each new one put in its place
  pub values_all_edited : (n : ℕ) (b : List ℕ) (es : List (ℕ × X)) → All (λ e. e.0 < n) es → All (λ e. is_valid e.1) es → length b ≡ n * s
      → values value s n (all_edited s b (in_places form es)) ≡ all_set (values value s n b) es
  unfolding all_edited all_set
  values_all_edited n b [] within valid_all e = refl
  values_all_edited n b (x ∷ es) within valid_all e =
      let here = All-head (λ e. e.0 < n) x es within in
      let p = All-head (λ e. is_valid e.1) x es valid_all in
      let fits = place_fits x.0 n s here in
      let same : length (edited s b x.0 (form x.1)) ≡ n * s = length-edited s x.0 b (form x.1) (omega (arith, fits, e)) (law.long x.1 p) ∙ e in
      values_all_edited n (edited s b x.0 (form x.1)) es (All-tail (λ e. e.0 < n) x es within) (All-tail (λ e. is_valid e.1) x es valid_all) same
      ∙ ap (λ xs. all_set xs es) (values_edited n b x.0 x.1 here e p)

-- ---- what holds of all edits so far

pub all_none : {A : Type 0} (P : A → Type 0) → All P []
all_none P k d h = absurd (omega (arith, h))

pub all_more : {A : Type 0} (P : A → Type 0) (xs : List A) (i : ℕ) (x : A) → i < length xs → x ≡ get_or xs i x → All P (take i xs) → P x
    → All P (take (i + 1) xs)
all_more P xs i x h e all one =
    let more : take (i + 1) xs ≡ take i xs ++ (x ∷ []) = take_more xs i x h ∙ ap (λ y. take i xs ++ (y ∷ [])) (sym e) in
    subst (All P) (sym more) (All-append P (take i xs) (x ∷ []) all (All-one P x one)) where
      All-one : {A : Type 0} (P : A → Type 0) (x : A) → P x → All P (x ∷ [])
      All-one P x p zero d h = p
      All-one P x p (suc k) d h = absurd (omega (arith, h))

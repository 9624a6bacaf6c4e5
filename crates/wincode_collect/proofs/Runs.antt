-- GaveEach of calls, one call at a time.
use mathlib.Core.Path.{◌≡◌, refl, sym, subst, ap, ◌∙◌}
use mathlib.Core.List.{List, [], ◌∷◌, ◌++◌}
use Prim.Native.Nat.{ℕ, suc, ◌+◌, ◌-◌, ◌<◌}
use native.Mathlib.Omega.{arith}
use native.Mathlib.Nat.{not-suc-le-zero}
use native.Mathlib.Numerals.{add-one}
use lib.ListN.{length, take, set}
use lib.Seq.{take-suc-set}
use Rattle.std.specs.Prelude.{Option, Some, None, Result, Ok}
use Rattle.wincode_collect.specs.Calls.{GaveEach, Stops, Gave, Failed, Attempts}

-- a run and one call more
pub runs_more : {S A : Type 0} (R : S → Option A → S → Type 0) (s : S) (xs : List A) (j t : S) (x : A) → GaveEach R s xs j → R j (Some x) t
    → GaveEach R s (xs ++ x ∷ []) t
runs_more R s [] j t x run step = (t, subst (λ u. R u (Some x) t) (sym run) step, refl)
runs_more R s (y ∷ xs) j t x run step = (run.0, run.1, runs_more R run.0 xs j t x run.2 step)

value_or : {A : Type 0} → A → Option A → A
value_or d None = d
value_or d (Some x) = x

Full : {A : Type 0} → Option A → Type 0
Full None = ⊥
Full (Some x) = Unit {0}

-- a source with an item at hand, of which a call keeps the name
module _ {S F A E Name : Type 0} (R : F → Result A E → F → Type 0) (ahead : S → Option A) (now : S → F) (error : S → Option E) (name : S → Name) where
  abbrev pub Step : S → Option A → S → Type 0
  Step s r t = (name t ≡ name s) × Attempts R (ahead s) (now s) r (ahead t) (now t) (error t)

  pub plain : (s : S) (xs : List A) (t : S) → ahead s ≡ None → GaveEach Step s xs t → (name t ≡ name s) × (ahead t ≡ None) × Gave R (now s) xs (now t)
  plain s [] t e run = (ap name (sym run), subst (λ u. ahead u ≡ None) run e, ap now run)
  plain s (x ∷ xs) t e run =
      let j = run.0 in let at = subst (λ a. Attempts R a (now s) (Some x) (ahead j) (now j) (error j)) e run.1.1 in
      let more = plain j xs t at.0 run.2 in (more.0 ∙ run.1.0, more.1, (now j, at.1, more.2))

  pub record Ran (s : S) (x : A) (ys : List A) (t : S) : Type 0 where
    pub same : name t ≡ name s
    pub more : List A
    pub are : ys ≡ x ∷ more
    pub gave : Gave R (now s) more (now t)

  pub ran : (s : S) (x : A) (ys : List A) (t : S) → ahead s ≡ Some x → 0 < length ys → GaveEach Step s ys t → Ran s x ys t
  unfolding value_or
  ran s x [] t e some run = absurd (not-suc-le-zero some)
  ran s x (y ∷ ys) t e some run =
      let j = run.0 in let at = subst (λ a. Attempts R a (now s) (Some y) (ahead j) (now j) (error j)) e run.1.1 in
      let more = plain j ys t at.1 run.2 in
      record { same = more.0 ∙ run.1.0; more = ys; are = ap (λ r. value_or y r ∷ ys) at.0; gave = subst (λ u. Gave R u ys (now t)) at.2 more.2 }

  pub record Broke (s : S) (n : ℕ) (t : S) : Type 0 where
    pub same : name t ≡ name s
    pub of : E
    pub is : error t ≡ Some of
    pub failed : Failed R (now s) (n - 1) of (now t)

  broke_at : (s : S) (x : A) (n : ℕ) (xs : List A) (u t : S) → ahead s ≡ Some x → length xs < n → GaveEach Step s xs u → Step u None t → Broke s n t
  unfolding Full
  broke_at s x n [] u t e fewer run step =
      let at = subst (λ a. Attempts R a (now u) None (ahead t) (now t) (error t)) (ap ahead (sym run) ∙ e) step.1 in
      absurd (subst Full (sym at.0) tt)
  broke_at s x n (y ∷ ys) u t e fewer run step =
      let j = run.0 in let at = subst (λ a. Attempts R a (now s) (Some y) (ahead j) (now j) (error j)) e run.1.1 in
      let more = plain j ys u at.1 run.2 in
      let last = subst (λ a. Attempts R a (now u) None (ahead t) (now t) (error t)) more.1 step.1 in
      let less : suc (length ys) < n = fewer in
      record {
        same = step.0 ∙ more.0 ∙ run.1.0;
        of = last.0;
        is = last.1;
        failed = record { items = ys; at = now u; fewer = omega (arith, less); run = subst (λ v. Gave R v ys (now u)) at.2 more.2; stop = last.2 };
      }

  pub broke : (s : S) (x : A) (n : ℕ) (t : S) → ahead s ≡ Some x → Stops Step s n t → Broke s n t
  broke s x n t e stops = broke_at s x n stops.items stops.at t e stops.fewer stops.run stops.stop

-- a call that gave an item, and then a refusal
pub failed_more : {S A E : Type 0} (R : S → Result A E → S → Type 0) (s : S) (x : A) (j : S) (n : ℕ) (e : E) (t : S) → R s (Ok x) j → Failed R j (n - 1) e t
    → Failed R s n e t
failed_more R s x j n e t step failed = record {
  items = x ∷ failed.items;
  at = failed.at;
  fewer = omega (arith, failed.fewer);
  run = (j, step, failed.run);
  stop = failed.stop;
}

-- the first i items, and one more that was put after them
pub placed : {A : Type 0} (xs ys : List A) (i : ℕ) (x : A) → ys ≡ set xs i x → i < length xs → take (i + 1) ys ≡ take i xs ++ x ∷ []
placed xs ys i x put l = (λ k. take (add-one i k) (put k)) ∙ take-suc-set xs i x l

-- GaveEach of calls that give an item or nothing, or an item or a refusal.
use Rattle.std.specs.Prelude.{◌≡◌, ℕ, ◌<◌, List, [], ◌∷◌, length, Option, Some, None, Result, Ok, Err}

-- calls from s on gave each of xs in turn, and led to t
abbrev pub GaveEach : {S A : Type 0} → (S → Option A → S → Type 0) → S → List A → S → Type 0
GaveEach R s [] t = s ≡ t
GaveEach {S} R s (x ∷ xs) t = (j : S) × R s (Some x) j × GaveEach R j xs t

-- calls from s on gave fewer than n items, and then the last one, which led to t, gave nothing
pub record Stops {S A : Type 0} (R : S → Option A → S → Type 0) (s : S) (n : ℕ) (t : S) : Type 0 where
  pub items : List A
  pub at : S
  pub fewer : length items < n
  pub run : GaveEach R s items at
  pub stop : R at None t

-- calls from s on gave `Ok` of each of xs in turn, and led to t
abbrev pub Gave : {S A E : Type 0} → (S → Result A E → S → Type 0) → S → List A → S → Type 0
Gave R s [] t = s ≡ t
Gave {S} R s (x ∷ xs) t = (j : S) × R s (Ok x) j × Gave R j xs t

-- calls from s on gave `Ok` fewer than n times, and then the last one, which led to t, was refused with e
pub record Failed {S A E : Type 0} (R : S → Result A E → S → Type 0) (s : S) (n : ℕ) (e : E) (t : S) : Type 0 where
  pub items : List A
  pub at : S
  pub fewer : length items < n
  pub run : Gave R s items at
  pub stop : R at (Err e) t

-- a call of a source with an item at hand, or without one
abbrev pub Attempts : {S A E : Type 0} → (S → Result A E → S → Type 0) → Option A → S → Option A → Option A → S → Option E → Type 0
Attempts R (Some x) s r ahead t error = (r ≡ Some x) × (ahead ≡ None) × (t ≡ s)
Attempts R None s (Some x) ahead t error = (ahead ≡ None) × R s (Ok x) t
Attempts {E = E} R None s None ahead t error = (e : E) × (error ≡ Some e) × R s (Err e) t

-- When a reader doesn't refuse.
use Rattle.std.proofs.Common.{◌≡◌, sym, ℕ, ◌-◌, ◌<◌, ◌≤◌, Bool, true, false, true≢false, ◌&&◌, not, refl, List, ◌++◌, length, take, IsTrue, arith}
use Rattle.std.proofs.Common.{◌∙◌, ap, length-append, length-take}
use Rattle.wincode_io.specs.declared.error.ReadError.{ReadError}
use Rattle.wincode_io.specs.declared.error.ReadError.TheVariants.{ReadSizeLimit, UnsupportedZeroCopy, Io, OutOfMemory}
use Rattle.wincode_io.specs.Readers.{ReaderState, Stays, Loses, Windowed, IsShort, ReadRefusedFor, WindowRefusedFor}

-- a told reader in memory, with n bytes left
pub record Has (n : ℕ) (s : ReaderState) : Type 0 where
  pub never_fails : s.never_fails ≡ true
  pub is_known : IsTrue s.is_known
  pub size : length s.rest ≡ n

-- a window has the bytes that it was cut for
pub windowed : {n : ℕ} {old new window : ReaderState} → Windowed n old new window → Has n window
windowed w = record { never_fails = w.never_fails; is_known = w.is_known; size = w.takes.size }

-- it has as many after a call that stays
pub stayed : {n : ℕ} {old new : ReaderState} → Has n old → Stays old new → Has n new
stayed has stays = record {
  never_fails = stays.kept.never_fails ∙ has.never_fails;
  is_known = stays.kept.is_known ∙ has.is_known;
  size = ap length (stays.rest has.is_known) ∙ has.size;
}

-- how many bytes are left after a front of m
split_length : (n m : ℕ) (xs ys : List ℕ) → length xs ≡ n → m ≤ length xs → xs ≡ take m xs ++ ys → length ys ≡ n - m
split_length n m xs ys size enough e =
    let all = ap length e in let h = simp length-append at all in omega (arith, length-take {A = ℕ})

-- it has m fewer after a call that takes m
pub lost : {n m : ℕ} {old new : ReaderState} → Has n old → Loses m old new → Has (n - m) new
lost {n} {m} {old} {new} has loses = record {
  never_fails = loses.kept.never_fails ∙ has.never_fails;
  is_known = loses.kept.is_known ∙ has.is_known;
  size = let h = loses.rest has.is_known in split_length n m old.rest new.rest has.size h.0 h.1;
}

-- such a reader serves a call for m of its bytes
pub served : (m : ℕ) {n : ℕ} (old new : ReaderState) (e : ReadError) → Has n old → m ≤ n → Stays old new
    → ReadRefusedFor (IsShort m old) ⊥ m new e → ⊥
served m old new (ReadSizeLimit k) has enough stays refusal = let short : length old.rest < m = refusal.0 has.is_known in omega arith
served m old new UnsupportedZeroCopy has enough stays refusal = refusal
served m old new OutOfMemory has enough stays refusal = let kept = stays.kept.never_fails in cc
served m old new (Io e) has enough stays refusal = let kept = stays.kept.never_fails in let device = refusal.0 in cc

counted_by : (a c : Bool) → a ≡ true → (a && not c) ≡ false → c ≡ true
counted_by true true e h = refl
counted_by true false e h = absurd (true≢false h)
counted_by false c e h = absurd (true≢false (sym e))

-- it refuses a window of m of its bytes only where it counts windows
pub window_served : (m : ℕ) {n : ℕ} (old new : ReaderState) (e : ReadError) → Has n old → m ≤ n → Stays old new
    → WindowRefusedFor (IsShort m old) m new e → (new.counts_windows ≡ true) × (e ≡ OutOfMemory)
window_served m old new (ReadSizeLimit k) has enough stays refusal = let short : length old.rest < m = refusal.0 has.is_known in absurd (omega arith)
window_served m old new UnsupportedZeroCopy has enough stays refusal = absurd refusal
window_served m old new OutOfMemory has enough stays refusal =
    (counted_by new.never_fails new.counts_windows (stays.kept.never_fails ∙ has.never_fails) refusal, refl)
window_served m old new (Io e) has enough stays refusal = absurd (true≢false (sym (stays.kept.never_fails ∙ has.never_fails) ∙ refusal.0))

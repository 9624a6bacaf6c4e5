-- The laws of places.
use Rattle.std.proofs.Common.{◌&&◌, not, false, ◌≡◌, ◌∙◌, sym, ap, ℕ, ◌+◌, ◌-◌, List, ◌++◌, length, take, refl, arith, length-append, length-take}
use Rattle.std.proofs.Common.{IsTrue, Option, None, Some}
use Rattle.wincode_io.specs.Places.{Placed, placed, onward}
use Rattle.wincode_io.specs.Readers.{ReaderState, Kept, Stays, Loses, IsOnward, IsSound, ReaderTells, is_steady}
use Rattle.wincode_io.specs.FailureLaws.{told_on}
use Rattle.wincode_io.specs.declared.error.ReadError.{ReadError}
use Rattle.wincode_io.specs.declared.error.ReadError.TheVariants.{Io}

pub kept_trans : {a b c : ReaderState} → Kept a b → Kept b c → Kept a c
kept_trans k l = record {
  lends = l.lends ∙ k.lends;
  never_fails = l.never_fails ∙ k.never_fails;
  counts_windows = l.counts_windows ∙ k.counts_windows;
  is_known = l.is_known ∙ k.is_known;
}

pub known_kept : {a b : ReaderState} → Kept a b → IsTrue a.is_known → IsTrue b.is_known
known_kept k t = rw k.is_known t

-- a reader that may fail is not steady
pub unsteady : (s : ReaderState) → s.never_fails ≡ false → is_steady s ≡ false
unsteady s e = ap (λ b. b && not s.counts_windows) e

-- where nothing was done
pub sound_refl : (s : ReaderState) → IsSound s s
sound_refl s = record { failures = refl; has_failed = refl }

pub sound_trans : {a b c : ReaderState} → IsSound a b → IsSound b c → IsSound a c
sound_trans s t = record { failures = t.failures ∙ s.failures; has_failed = t.has_failed ∙ s.has_failed }

-- a call before, in which the device did not fail, changes nothing of what is told of it
pub tells_on : (a b c : ReaderState) (e : ReadError) → IsSound a b → ReaderTells b c e → ReaderTells a c e
tells_on a b c (Io e) sound t = told_on a.has_failed b.has_failed c.has_failed c.last e sound.has_failed t
tells_on a b c _ sound t = sound_trans sound t

pub stays_trans : {a b c : ReaderState} → Stays a b → Stays b c → Stays a c
stays_trans s t = record {
  kept = kept_trans s.kept t.kept;
  rest = λ told. t.rest (known_kept s.kept told) ∙ s.rest told;
  ready = let a = s.ready in let b = t.ready in omega arith;
  place = t.place ∙ s.place;
}

nowhere : (p : Option (Placed (List ℕ))) → onward 0 p ≡ p
nowhere None = refl
nowhere (Some p) = ap (λ n. Some (placed p.inner n)) (omega arith)

twice : (a b : ℕ) (p : Option (Placed (List ℕ))) → onward b (onward a p) ≡ onward (a + b) p
twice a b None = refl
twice a b (Some p) = ap (λ n. Some (placed p.inner n)) (omega arith)

-- a reader that stays stands where it stood
pub stays_onward : (old new : ReaderState) → Stays old new → IsTrue old.is_known → IsOnward old new
stays_onward old new s t =
    let same : length new.rest ≡ length old.rest = ap length (s.rest t) in
    s.place ∙ sym (nowhere old.place) ∙ ap (λ n. onward n old.place) (omega arith)

-- a reader that has lost n bytes stands n bytes further on
pub loses_onward : (n : ℕ) (old new : ReaderState) → Loses n old new → IsTrue old.is_known → IsOnward old new
loses_onward n old new l t =
    let r = l.rest t in
    let split = ap length r.1 ∙ length-append (take n old.rest) new.rest in
    l.place ∙ ap (λ m. onward m old.place) (omega (arith, r.0, split, length-take n old.rest))

-- one part after another
pub onward_trans : (old mid new : ReaderState) (a b : List ℕ) → old.rest ≡ a ++ mid.rest → mid.rest ≡ b ++ new.rest → IsOnward old mid → IsOnward mid new
    → IsOnward old new
onward_trans old mid new a b e f p q =
    let first = ap length e ∙ length-append a mid.rest in
    let second = ap length f ∙ length-append b new.rest in
    q ∙ ap (onward (length mid.rest - length new.rest)) p ∙ twice (length old.rest - length mid.rest) (length mid.rest - length new.rest) old.place
    ∙ ap (λ n. onward n old.place) (omega (arith, first, second))

-- where nothing was done
pub still : (s : ReaderState) → IsOnward s s
still s = sym (nowhere s.place) ∙ ap (λ n. onward n s.place) (omega arith)

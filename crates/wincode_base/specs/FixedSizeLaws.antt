-- Reading encodings that all have one size.
use Rattle.std.proofs.Common.{◌≡◌, ◌∙◌, sym, ap, subst, ℕ, ◌≤◌, Bool, List, [], ◌++◌, length, take, arith, length-append, IsTrue, Some}
use Rattle.wincode_io.specs.Places.{onward}
use Rattle.wincode_io.specs.Readers.{ReaderState, Stays, ReaderTells, Loses, Takes, IsShort, ReadRefusedFor, WindowRefusedFor, Arrays}
use Rattle.wincode_io.specs.PlaceLaws.{kept_trans, known_kept, sound_trans, unsteady, stays_onward, loses_onward}
use Rattle.wincode_base.specs.Outcomes.{Gives, Puts, Accepts, ReadRefused, ReaderDue, PieceReadRefused, NoWindow}
use Rattle.wincode_base.specs.declared.error.ReadError.{ReadError}
use Rattle.wincode_base.specs.declared.error.ReadError.TheVariants as reading
use Rattle.wincode_io.specs.declared.error.ReadError.{ReadError as IoReadError}
use Rattle.wincode_io.specs.declared.error.ReadError.TheVariants as reader

module _ {V : Type 0} (reads : List ℕ → V → Type 0) (n : ℕ) (sized : (b : List ℕ) (v : V) → reads b v → length b ≡ n) where
  too_short : (old : ReaderState) → IsShort n old → Accepts reads old → ⊥
  too_short old short a =
      let f = a.front.found in
      absurd (omega (arith, short a.is_known, sized f.encoding a.front.value f.is_read, ap length f.joins, length-append f.encoding a.front.rest))

  denied_due : (borrow : ℕ) (old new : ReaderState) (e : IoReadError) → ReadRefusedFor (IsShort n old) ⊥ n new e → ReaderDue (Accepts reads old) borrow new e
  denied_due borrow old new (reader.ReadSizeLimit m) d = λ a. too_short old d.0 a
  denied_due borrow old new reader.UnsupportedZeroCopy d = absurd d
  denied_due borrow old new reader.OutOfMemory d = unsteady new d
  denied_due borrow old new (reader.Io e) d = d

  window_due : (borrow : ℕ) (old new : ReaderState) (e : IoReadError) → WindowRefusedFor (IsShort n old) n new e → ReaderDue (Accepts reads old) borrow new e
  window_due borrow old new (reader.ReadSizeLimit m) d = λ a. too_short old d.0 a
  window_due borrow old new reader.UnsupportedZeroCopy d = absurd d
  window_due borrow old new reader.OutOfMemory d = d
  window_due borrow old new (reader.Io e) d = d

  stayed_refuses : (borrow : ℕ) (takes_no_memory : Bool) (old new : ReaderState) (e : IoReadError) → Stays old new → ReaderTells old new e
      → ReaderDue (Accepts reads old) borrow new e → ReadRefused reads borrow takes_no_memory old new (reading.Io e)
  stayed_refuses borrow takes_no_memory old new e stays device due = record {
    kept = stays.kept;
    left = λ t. record { front = []; joins = sym (stays.rest t) };
    place = stays_onward old new stays;
    device = device;
    due = due;
  }

  -- the reader refused n bytes
  pub denied_refuses : (borrow : ℕ) (takes_no_memory : Bool) (old new : ReaderState) (e : ReadError) → PieceReadRefused n old new e
      → ReadRefused reads borrow takes_no_memory old new e
  denied_refuses borrow takes_no_memory old new (reading.Io e) d = stayed_refuses borrow takes_no_memory old new e d.0 d.1 (denied_due borrow old new e d.2)
  denied_refuses borrow takes_no_memory old new _ d = absurd d

  -- the reader refused a window of n bytes
  pub window_denied_refuses : (borrow : ℕ) (takes_no_memory : Bool) (old new : ReaderState) (e : ReadError) → NoWindow n old new e
      → ReadRefused reads borrow takes_no_memory old new e
  window_denied_refuses borrow takes_no_memory old new (reading.Io e) d = stayed_refuses borrow takes_no_memory old new e d.0 d.1 (window_due borrow old new e d.2)
  window_denied_refuses borrow takes_no_memory old new _ d = absurd d

-- bytes that were shown as an array, and then consumed
pub arrays_takes : (n : ℕ) (old mid new : ReaderState) (a : List ℕ) → Arrays n old mid a → Loses n mid new → Takes n old new a
arrays_takes n old mid new a s l = record {
  loses = record {
    kept = kept_trans s.stays.kept l.kept;
    rest = λ t. subst (λ b. (n ≤ length b) × (b ≡ take n b ++ new.rest)) (s.stays.rest t) (l.rest (known_kept s.stays.kept t));
    ready = let a = s.stays.ready in let b = l.ready in omega arith;
    place = l.place ∙ ap (onward n) s.stays.place;
    sound = sound_trans s.sound l.sound;
  };
  size = s.size;
  front = λ t. (s.front t).1;
}

-- what was taken stood before what is left
pub takes_joins : {n : ℕ} {old new : ReaderState} {bytes : List ℕ} → Takes n old new bytes → IsTrue old.is_known → old.rest ≡ bytes ++ new.rest
takes_joins {n} {old} {new} {bytes} t told = (t.loses.rest told).1 ∙ ap (λ b. b ++ new.rest) (sym (t.front told))

-- the bytes that were taken read as v
pub takes_gives : {V : Type 0} (reads : List ℕ → V → Type 0) (n : ℕ) (old new : ReaderState) (bytes : List ℕ) (v : V) → Takes n old new bytes → reads bytes v
    → Gives reads old new v
takes_gives reads n old new bytes v t r = record {
  kept = t.loses.kept;
  sound = t.loses.sound;
  found = λ told. record { encoding = bytes; is_read = r; joins = takes_joins t told };
  place = loses_onward n old new t.loses;
}

-- the destination has a value that reading gave
pub puts : {D V : Type 0} (reads : List ℕ → V → Type 0) (model : D → V) (old new : ReaderState) (v : D) → Gives reads old new (model v)
    → Puts reads model old new (Some v)
puts reads model old new v g = g

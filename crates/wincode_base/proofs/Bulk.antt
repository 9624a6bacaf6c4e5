-- Many numbers of one byte read or written at once.
use Rattle.std.proofs.Common.{◌≡◌, ◌∙◌, sym, ap, subst, ℕ, ◌*◌, ◌<◌, ◌≤◌, ◌^◌, true, false, List, [], ◌∷◌, ◌++◌, length, length-take, map, take, suc}
use Rattle.std.proofs.Common.{refl, arith}
use Rattle.std.proofs.lemmas.List.Elements.{All-head, All-tail}
use Rattle.std.specs.Prelude.{Result, Ok, Err, is_ok, OnOk}
use Rattle.wincode_io.specs.Bytes.{IsBytes}
use Rattle.wincode_io.specs.Joins.{Joined, Each, total, AreItems}
use Rattle.wincode_io.specs.Numbers.{le}
use Rattle.wincode_io.specs.Places.{onward}
use Rattle.wincode_io.specs.PlaceLaws.{kept_trans, known_kept, sound_trans, stays_onward}
use Rattle.wincode_io.specs.Readers.{ReaderState, BytesReadRefused, StaysSound, Loses, Takes, IsShown, IsShort}
use Rattle.wincode_io.specs.Writers.{WriterState, WriterLaws, Added, BytesWriteRefused}
use Rattle.wincode_base.specs.AsForms.{BulkReadRefused}
use Rattle.wincode_base.specs.Grammar.{WriteGrammar}
use Rattle.wincode_base.specs.Leaves.{number_read, number_write}
use Rattle.wincode_base.specs.Lists.{items_write}
use Rattle.wincode_base.specs.ListLaws.{none_spared}
use Rattle.wincode_base.specs.Outcomes.{Gives, Adds, ReadRefused, IsEncoded, Wrote, WriteRefused, Stopped}
use Rattle.wincode_base.specs.WriteSequences.{encoding_wrote, encoding_unwritten, nothing_stopped}
use Rattle.wincode_base.specs.declared.error.ReadError.TheVariants as reading
use Rattle.wincode_base.specs.declared.error.WriteError.TheVariants as writing
use Rattle.wincode_io.specs.declared.error.ReadError.{ReadError as IoReadError}
use Rattle.wincode_io.specs.declared.error.WriteError.{WriteError as IoWriteError}
use Rattle.wincode_base.proofs.Integers.{AreSmall, are_bytes}
use Rattle.wincode_base.specs.FixedSizeLaws.{denied_refuses, takes_gives}

-- what holds of an answer that is Ok
pub went_well : {A E Q : Type 0} (r : Result A E) → is_ok r ≡ true → OnOk r Q → Q
went_well (Ok x) e q = q
went_well (Err x) e q = absurd (cc)

-- ---- reading

-- bytes that were shown, and then consumed
pub shown_takes : (n : ℕ) (old mid new : ReaderState) (bytes : List ℕ) → length bytes ≡ n → IsShown n old bytes → StaysSound old mid → Loses n mid new
    → Takes n old new bytes
shown_takes n old mid new bytes size shown stays loses = record {
  loses = record {
    kept = kept_trans stays.0.kept loses.kept;
    rest = λ t. subst (λ b. (n ≤ length b) × (b ≡ take n b ++ new.rest)) (stays.0.rest t) (loses.rest (known_kept stays.0.kept t));
    ready = let a = stays.0.ready in let b = loses.ready in omega arith;
    place = loses.place ∙ ap (onward n) stays.0.place;
    sound = sound_trans stays.1 loses.sound;
  };
  size = size;
  front = λ t. shown.1 t;
}

-- memory was refused before anything was taken
pub wanted_refuses : {V : Type 0} (reads : List ℕ → V → Type 0) (borrow : ℕ) (old new : ReaderState) → StaysSound old new
    → ReadRefused reads borrow false old new reading.OutOfMemory
wanted_refuses reads borrow old new s = record {
  kept = s.0.kept;
  left = λ t. record { front = []; joins = sym (s.0.rest t) };
  place = stays_onward old new s.0;
  device = s.1;
  due = none_spared new.never_fails;
}

byte_encoding : (v : ℕ) → v < 256 → le 1 v ≡ v ∷ []
unfolding le
byte_encoding v small = ap (λ b. b ∷ []) (omega arith)

-- bytes are the encodings of as many numbers of one byte
bytes_read : (bytes : List ℕ) → IsBytes bytes → Joined (number_read 1 true).reads bytes bytes
bytes_read [] all = refl
bytes_read (b ∷ bytes) all =
    let small : b < 256 = All-head (λ x. x < 256) b bytes all in
    (b ∷ [], bytes, (small, sym (byte_encoding b small)), bytes_read bytes (All-tail (λ x. x < 256) b bytes all), refl)

bytes_sized : (n : ℕ) (b vs : List ℕ) → AreItems n (number_read 1 true).reads b vs → length b ≡ n
unfolding le
bytes_sized n b vs r = sized vs b r.1 ∙ r.0 where
  sized : (vs b : List ℕ) → Joined (number_read 1 true).reads vs b → length b ≡ length vs
  sized [] b j = ap length j
  sized (v ∷ vs) b j = ap length j.4 ∙ ap (λ x. length (x ++ j.1)) j.2.1 ∙ ap suc (sized vs j.1 j.3)

pub mapped : {X : Type 0} (xs : List X) → map (λ v. v) xs ≡ xs
mapped [] = refl
mapped (x ∷ xs) = ap (λ ys. x ∷ ys) (mapped xs)

pub bytes_added : (n : ℕ) (old mid new : ReaderState) (bytes before after : List ℕ) → AreSmall bytes → length bytes ≡ n → IsShown n old bytes → StaysSound old mid
    → Loses n mid new
    → after ≡ before ++ bytes → Adds n (number_read 1 true).reads (λ v. v) old new before after
bytes_added n old mid new bytes before after small size shown stays loses e = record {
  items = bytes;
  is = e;
  gives = subst (Gives (AreItems n (number_read 1 true).reads) old new) (sym (mapped bytes))
      (takes_gives (AreItems n (number_read 1 true).reads) n old new bytes bytes (shown_takes n old mid new bytes size shown stays loses)
      (size, bytes_read bytes (are_bytes bytes small)));
}

pub bytes_refused : (n : ℕ) (old new : ReaderState) (e : IoReadError) → BytesReadRefused (IsShort n old) ⊥ n old new e
    → ReadRefused (AreItems n (number_read 1 true).reads) 0 false old new (reading.Io e)
bytes_refused n old new e d = denied_refuses (AreItems n (number_read 1 true).reads) n (bytes_sized n) 0 false old new (reading.Io e) d

-- at once they were refused by the reader
pub bytes_denied : (n : ℕ) (old new : ReaderState) (e : IoReadError) → BytesReadRefused (IsShort n old) ⊥ n old new e
    → BulkReadRefused (n * 1) old new (reading.Io e)
bytes_denied n old new e d =
    let one : n ≡ n * 1 = omega arith in
    subst (λ k. BulkReadRefused k old new (reading.Io e)) one d

-- at once they are there, and memory for them was refused
pub bytes_wanted : (n : ℕ) (old new : ReaderState) (bytes : List ℕ) → StaysSound old new → length bytes ≡ n → IsShown n old bytes
    → BulkReadRefused (n * 1) old new reading.OutOfMemory
bytes_wanted n old new bytes s size shown = (s, λ known. omega (arith, size, ap length (shown.1 known), length-take n old.rest))

-- ---- writing

abbrev bytes_write : WriteGrammar (List ℕ)
bytes_write = items_write (number_write 1 true)

each_can : (vs : List ℕ) → Each (λ v. Unit {0}) vs
each_can [] = tt
each_can (v ∷ vs) = (tt, each_can vs)

ones : (vs : List ℕ) → length vs ≡ total (λ v. 1) vs
ones [] = refl
ones (v ∷ vs) = omega (arith, ones vs)

bytes_written : (bytes : List ℕ) → IsBytes bytes → Joined (number_write 1 true).writes bytes bytes
bytes_written [] all = refl
bytes_written (b ∷ bytes) all =
    let small : b < 256 = All-head (λ x. x < 256) b bytes all in
    (b ∷ [], bytes, sym (byte_encoding b small), bytes_written bytes (All-tail (λ x. x < 256) b bytes all), refl)

pub each_small : (vs : List ℕ) → AreSmall vs → Each (λ v. v < 256 ^ 1) vs
each_small [] h = tt
each_small (v ∷ vs) h = (h 0, each_small vs (λ i. h (suc i)))

-- bytes are an encoding of themselves
pub bytes_encoded : (vs : List ℕ) → AreSmall vs → IsEncoded bytes_write (map (λ v. v) vs) vs × Each (λ v. v < 256 ^ 1) vs
bytes_encoded vs small =
    let P : List ℕ → Type 0 = λ ws. IsEncoded bytes_write ws vs in
    (subst P (sym (mapped vs)) (each_can vs, bytes_written vs (are_bytes vs small)), each_small vs small)

module _ {S K : Type 0} {put : S → List ℕ → S} {room : S → ℕ} {old new : WriterState put room K} (vs : List ℕ) (small : AreSmall vs) where
  pub bytes_wrote : Added vs old new → Wrote bytes_write old new (map (λ v. v) vs)
  bytes_wrote a = subst (Wrote bytes_write old new) (sym (mapped vs))
      (encoding_wrote bytes_write vs vs (bytes_written vs (are_bytes vs small)) (ones vs) old new (each_can vs) a)

  pub bytes_unwritten : WriterLaws put room → (e : IoWriteError) → BytesWriteRefused (length vs) old new e
      → WriteRefused bytes_write old new (map (λ v. v) vs) (writing.Io e)
  bytes_unwritten laws e d =
      let P : List ℕ → Type 0 = λ ws. WriteRefused bytes_write old new ws (writing.Io e) in
      subst P (sym (mapped vs)) (encoding_unwritten bytes_write vs vs (bytes_written vs (are_bytes vs small)) (ones vs) laws old new e d)

  pub bytes_halted : WriterLaws put room → (e : IoWriteError) → BytesWriteRefused (length vs) old new e
      → Stopped bytes_write old new (map (λ v. v) vs) (writing.Io e)
  bytes_halted laws e d = nothing_stopped laws old new (writing.Io e) d.0.content (λ dynamic. absurd (cc dynamic))

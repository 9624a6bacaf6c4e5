-- What short numbers read and write.
use Rattle.std.proofs.Common.{◌≡◌, ◌∙◌, sym, ap, subst, ℕ, ◌<◌, ◌≤◌, ◌^◌, true, List, [], ◌++◌, length, take, refl, arith, Bor, inl}
use Rattle.std.proofs.Math.Seq.{take-append_seam}
use Rattle.wincode_io.specs.ShortNumbers.{short_encoding, BeginsShort, BeginsNoShort}
use Rattle.wincode_io.specs.ShortNumberLaws.{short_shown, short_whole}
use Rattle.wincode_io.specs.Places.{onward}
use Rattle.wincode_io.specs.PlaceLaws.{kept_trans, known_kept, sound_trans, stays_onward, unsteady}
use Rattle.wincode_io.specs.Readers.{ReaderState, StaysSound, Loses, IsShown, ReadRefusedFor, BytesReadRefused, nothing}
use Rattle.wincode_io.specs.Writers.{WriterState, WriterLaws, Added, BytesWriteRefused}
use Rattle.wincode_base.specs.Lengths.{HasEncoding, encoding_len, length_write}
use Rattle.wincode_base.specs.Short.{short_read, short_scheme}
use Rattle.wincode_base.specs.ShortLaws.{short_has}
use Rattle.wincode_base.specs.WriteSequences.{encoding_wrote, encoding_unwritten, encoding_stopped}
use Rattle.wincode_base.specs.Outcomes.{Gives, ReaderDue, ReadRefused, SchemaReadRefused, Accepts, Wrote, WriteRefused, Stopped, PieceWriteRefused}
use Rattle.wincode_base.specs.FixedSizeLaws.{takes_gives}
use Rattle.wincode_base.specs.declared.error.ReadError.TheVariants as reading
use Rattle.wincode_base.specs.declared.error.WriteError.TheVariants as writing
use Rattle.wincode_io.specs.declared.error.ReadError.{ReadError as IoReadError}
use Rattle.wincode_io.specs.declared.error.ReadError.TheVariants as reader
use Rattle.wincode_io.specs.declared.error.WriteError.{WriteError as IoWriteError}

-- ---- reading

accepts_short : (old : ReaderState) → (a : Accepts short_read.reads old) → BeginsShort old.rest a.front.value
accepts_short old a = let f = a.front.found in (f.is_read.0, (a.front.rest, f.joins ∙ ap (λ t. t ++ a.front.rest) f.is_read.1))

module _ {old mid : ReaderState} {bytes : List ℕ} (stays : StaysSound old mid) (shown : IsShown 3 old bytes) where
  -- the bytes that were shown begin with no short number
  pub short_overflow : (s : Bor (List ℕ)) → BeginsNoShort bytes → ReadRefused short_read.reads 0 true old mid (reading.LengthEncodingOverflow s)
  short_overflow s none = record {
    kept = stays.0.kept;
    left = λ t. record { front = []; joins = sym (stays.0.rest t) };
    place = stays_onward old mid stays.0;
    device = stays.1;
    due = λ a. none a.front.value (subst (λ b. BeginsShort b a.front.value) (sym (shown.1 a.is_known))
        (short_shown old.rest a.front.value (accepts_short old a)));
  }

  -- the bytes that were shown begin with n, and then it was consumed
  pub short_given : (new : ReaderState) (n : ℕ) → BeginsShort bytes n → Loses (length (short_encoding n)) mid new → Gives short_read.reads old new n
  short_given new n b l = takes_gives short_read.reads (length (short_encoding n)) old new (short_encoding n) n record {
    loses = record {
      kept = kept_trans stays.0.kept l.kept;
      rest = λ t. subst (λ r. (length (short_encoding n) ≤ length r) × (r ≡ take (length (short_encoding n)) r ++ new.rest)) (stays.0.rest t)
          (l.rest (known_kept stays.0.kept t));
      ready = let a = stays.0.ready in let b = l.ready in omega arith;
      place = l.place ∙ ap (onward (length (short_encoding n))) stays.0.place;
      sound = sound_trans stays.1 l.sound;
    };
    size = refl;
    front = λ t. let w = short_whole old.rest n (subst (λ r. BeginsShort r n) (shown.1 t) b) in
        sym (ap (take (length (short_encoding n))) w.1.1 ∙ take-append_seam (short_encoding n) w.1.0);
  } (b.0, refl)

-- the reader refused the first three
denied_due : (accepted : Type 0) (new : ReaderState) (e : IoReadError) → ReadRefusedFor ⊥ ⊥ 3 new e → ReaderDue accepted nothing new e
denied_due accepted new (reader.ReadSizeLimit n) d = absurd d.0
denied_due accepted new reader.UnsupportedZeroCopy d = absurd d
denied_due accepted new reader.OutOfMemory d = unsteady new d
denied_due accepted new (reader.Io e) d = d

pub short_denied : (old new : ReaderState) (e : IoReadError) → BytesReadRefused ⊥ ⊥ 3 old new e → SchemaReadRefused short_read old new (reading.Io e)
short_denied old new e d = (
  record {
    kept = d.0.kept;
    left = λ t. record { front = []; joins = sym (d.0.rest t) };
    place = stays_onward old new d.0;
    device = d.1;
    due = denied_due (Accepts short_read.reads old) new e d.2;
  },
  d,
)

-- ---- writing

pub length_sized : (n : ℕ) → n < 2 ^ 16 → HasEncoding short_scheme n × (length (short_encoding n) ≡ encoding_len (short_scheme.encoding n))
length_sized n small = ((short_encoding n, short_has n small), sym (ap encoding_len (short_has n small)))

module _ {S K : Type 0} {put : S → List ℕ → S} {room : S → ℕ} (n : ℕ) (small : n < 2 ^ 16) {old new : WriterState put room K} where
  pub length_wrote : Added (short_encoding n) old new → Wrote (length_write short_scheme) old new n
  length_wrote d = encoding_wrote (length_write short_scheme) n (short_encoding n) (short_has n small) (length_sized n small).1 old new
      (length_sized n small).0 d

  pub length_unwritten : WriterLaws put room → (e : IoWriteError) → BytesWriteRefused (length (short_encoding n)) old new e
      → WriteRefused (length_write short_scheme) old new n (writing.Io e)
  length_unwritten laws e d = encoding_unwritten (length_write short_scheme) n (short_encoding n) (short_has n small) (length_sized n small).1 laws old new e d

  pub length_halted : WriterLaws put room → (e : IoWriteError) → BytesWriteRefused (length (short_encoding n)) old new e
      → Stopped (length_write short_scheme) old new n (writing.Io e)
  length_halted laws e d =
      let size = (length_sized n small).1 in
      encoding_stopped (length_write short_scheme) n (short_encoding n) (short_has n small) size laws old new e d
      (λ x. inl ((short_encoding n, short_has n small), subst (λ m. PieceWriteRefused m (room old.content) [] (writing.Io e)) size x))

-- What lengths of eight bytes read and write.
use Rattle.std.proofs.Common.{◌≡◌, ◌∙◌, sym, ap, subst, ℕ, ◌*◌, ◌<◌, ◌≤◌, ◌^◌, List, [], length, take, arith, true, Option, Some, None, IfSome, w64, inl}
use Rattle.std.specs.Int.{to_le_bytes}
use Rattle.wincode_io.specs.Numbers.{le}
use Rattle.wincode_io.specs.NumberLaws.{length-le, to_le_bytes-le}
use Rattle.wincode_io.specs.Readers.{ReaderState, TakesNumber}
use Rattle.wincode_io.specs.PlaceLaws.{loses_onward}
use Rattle.wincode_io.specs.Writers.{WriterState, WriterLaws, Added, BytesWriteRefused}
use Rattle.wincode_base.specs.Lengths.{IsLength, length_read, bincode, LengthReadRefused, HasEncoding, encoding_len, length_write}
use Rattle.wincode_base.specs.LengthLaws.{bincode_encoding, bincode_encoding_is, bincode_laws}
use Rattle.wincode_base.specs.Outcomes.{Gives, ReadRefused, Accepts, PieceReadRefused, Wrote, WriteRefused, Stopped, PieceWriteRefused, SchemaReadRefused}
use Rattle.wincode_base.specs.WriteSequences.{encoding_wrote, encoding_unwritten, encoding_stopped}
use Rattle.wincode_base.specs.FixedSizeLaws.{takes_gives, takes_joins, denied_refuses}
use Rattle.wincode_base.specs.declared.error.ReadError.{ReadError}
use Rattle.wincode_base.specs.declared.error.ReadError.TheVariants as reading
use Rattle.wincode_base.specs.declared.error.WriteError.TheVariants as writing
use Rattle.wincode_io.specs.declared.error.WriteError.{WriteError as IoWriteError}

module _ (limit p : ℕ) where
  -- eight bytes were refused
  pub length_denied : (old new : ReaderState) (e : ReadError) → PieceReadRefused 8 old new e → SchemaReadRefused (length_read (bincode limit) p) old new e
  length_denied old new e d = (
    denied_refuses (IsLength (bincode limit) p) 8 (λ b n h. ap length (bincode_encoding_is limit n b h.1).1 ∙ length-le 8 n)
        0 true old new e d,
    denied e d,
  ) where
    denied : (e : ReadError) → PieceReadRefused 8 old new e → LengthReadRefused limit p old new e
    denied (reading.Io e) d = d
    denied _ d = absurd d

  -- a length was taken that is admitted
  pub length_given : (old new : ReaderState) (n : ℕ) → TakesNumber 8 old new n → n * p ≤ limit → Gives (IsLength (bincode limit) p) old new n
  length_given old new n t within = takes_gives (IsLength (bincode limit) p) 8 old new (le 8 n) n t.1 ((t.0, within), bincode_encoding limit n t.0)

  none_accepted : (old new : ReaderState) (n : ℕ) → TakesNumber 8 old new n → limit < n * p → Accepts (IsLength (bincode limit) p) old → ⊥
  none_accepted old new n t over a =
      let f = a.front.found in
      let same = (bincode_laws limit).one_length f.encoding (le 8 n) a.front.rest new.rest a.front.value n f.is_read.1 (bincode_encoding limit n t.0)
      (sym f.joins ∙ takes_joins t.1 a.is_known) in
      let within : a.front.value * p ≤ limit = f.is_read.0.1 in
      let more : limit < a.front.value * p = subst (λ v. limit < v * p) (sym same.1) over in
      absurd (omega arith)

  -- a length was taken that is not admitted
  pub length_not_accepted : (old new : ReaderState) (n : ℕ) → TakesNumber 8 old new n → limit < n * p → (needed most : ℕ)
      → ReadRefused (IsLength (bincode limit) p) 0 true old new (reading.PreallocationSizeLimit needed most)
  length_not_accepted old new n t over needed most = record {
    kept = t.1.loses.kept;
    left = λ told. record { front = le 8 n; joins = takes_joins t.1 told };
    place = loses_onward 8 old new t.1.loses;
    device = t.1.loses.sound;
    due = none_accepted old new n t over;
  }

text_is : (n : ℕ) (encoding : List ℕ) → encoding ≡ to_le_bytes w64 n → encoding ≡ le 8 n
text_is n encoding e = e ∙ to_le_bytes-le w64 n

has : (limit n : ℕ) (encoding : List ℕ) → n < 2 ^ 64 → encoding ≡ to_le_bytes w64 n → (bincode limit).encoding n ≡ Some encoding
has limit n encoding small e = bincode_encoding limit n small ∙ ap (λ b. Some b) (sym (text_is n encoding e))

size_is : (limit n : ℕ) (encoding : List ℕ) → n < 2 ^ 64 → encoding ≡ to_le_bytes w64 n → length encoding ≡ encoding_len ((bincode limit).encoding n)
size_is limit n encoding small e = sym (ap encoding_len (has limit n encoding small e))

module _ {S K : Type 0} {put : S → List ℕ → S} {room : S → ℕ} (limit n : ℕ) {encoding : List ℕ} (small : n < 2 ^ 64) (e : encoding ≡ to_le_bytes w64 n)
    {old new : WriterState put room K} where
  pub length_wrote : Added encoding old new → Wrote (length_write (bincode limit)) old new n
  length_wrote d = encoding_wrote (length_write (bincode limit)) n encoding (has limit n encoding small e) (size_is limit n encoding small e) old new
      (encoding, has limit n encoding small e) d

  pub length_unwritten : WriterLaws put room → (r : IoWriteError) → BytesWriteRefused (length encoding) old new r
      → WriteRefused (length_write (bincode limit)) old new n (writing.Io r)
  length_unwritten laws r d = encoding_unwritten (length_write (bincode limit)) n encoding (has limit n encoding small e) (size_is limit n encoding small e)
      laws old new r d

  pub length_halted : WriterLaws put room → (r : IoWriteError) → BytesWriteRefused (length encoding) old new r
      → Stopped (length_write (bincode limit)) old new n (writing.Io r)
  length_halted laws r d =
      let size = size_is limit n encoding small e in
      encoding_stopped (length_write (bincode limit)) n encoding (has limit n encoding small e) size laws old new r d
      (λ x. inl ((encoding, has limit n encoding small e), subst (λ m. PieceWriteRefused m (room old.content) [] (writing.Io r)) size x))

pub length_needed : (limit n : ℕ) → n < 2 ^ 64 → HasEncoding (bincode limit) n × (8 ≡ encoding_len ((bincode limit).encoding n))
length_needed limit n small = let has = bincode_encoding limit n small in ((le 8 n, has), sym (ap encoding_len has ∙ length-le 8 n))

-- eight bytes that were put over the front of others, where they were
pub length_put : (limit n : ℕ) {encoding : List ℕ} (small : n < 2 ^ 64) (e : encoding ≡ to_le_bytes w64 n) (bytes : List ℕ) (r : Option ℕ)
    → IfSome r (λ k. (k ≤ length bytes) × (take k bytes ≡ encoding))
    → IfSome r (λ k. (k ≤ length bytes) × ((bincode limit).encoding n ≡ Some (take k bytes)))
length_put limit n small e bytes None p = tt
length_put limit n {encoding} small e bytes (Some k) p = (p.0, has limit n encoding small e ∙ ap (λ b. Some b) (sym p.1))

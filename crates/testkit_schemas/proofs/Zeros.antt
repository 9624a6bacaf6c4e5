-- Reading and writing a block.
use Rattle.std.proofs.Common.{◌≡◌, ◌∙◌, sym, ap, ℕ, ◌+◌, ◌*◌, ◌≤◌, true, List, [], ◌++◌, refl, arith, length-append, subst, replicate}
use Rattle.wincode_io.specs.Joins.{Each}
use Rattle.wincode_io.specs.JoinLaws.{each_append}
use Rattle.wincode_io.specs.PlaceLaws.{loses_onward}
use Rattle.wincode_io.specs.Readers.{ReaderState, Takes}
use Rattle.wincode_io.specs.WriterLaws.{same_refl, same_trans, writer_sound_refl, writer_sound_trans}
use Rattle.wincode_io.specs.Writers.{WriterState, WriterLaws, Took, BytesWriteRefused}
use Rattle.wincode_base.specs.LeafLaws.{same_front}
use Rattle.wincode_base.specs.Outcomes.{Accepts, ReadRefused, WriteRefused, Stopped}
use Rattle.wincode_base.specs.WriteSequences.{encoding_unwritten, nothing_stopped, piece_denied}
use Rattle.std.proofs.lemmas.List.{length-replicate}
use Rattle.wincode_base.specs.FixedSizeLaws.{takes_joins}
use Rattle.wincode_base.specs.declared.error.ReadError.TheVariants as reading
use Rattle.wincode_base.specs.declared.error.WriteError.TheVariants as writing
use Rattle.wincode_io.specs.declared.error.WriteError.{WriteError as IoWriteError}
use Rattle.testkit_schemas.specs.Block.{AreZeros, all_zero, block_read, block_write}

module _ (n : ℕ) (old new : ReaderState) (bytes : List ℕ) (t : Takes n old new bytes) (other : Each (λ d. d ≡ 0) bytes → ⊥) where
  other_due : Accepts (block_read n).reads old → ⊥
  other_due a =
      let f = a.front.found in
      let same : bytes ≡ f.encoding = same_front bytes f.encoding new.rest a.front.rest (t.size ∙ sym f.is_read.0) (sym (takes_joins t a.is_known) ∙ f.joins) in
      other (rw same f.is_read.1)

  -- what was taken is no block
  pub other_refuses : (s : _) → ReadRefused (block_read n).reads 0 true old new (reading.Custom s)
  other_refuses s = record {
    kept = t.loses.kept;
    left = λ told. record { front = bytes; joins = takes_joins t told };
    place = loses_onward n old new t.loses;
    device = t.loses.sound;
    due = other_due;
  }

-- nothing is so many zeros as none
pub none_took : {S K : Type 0} {put : S → List ℕ → S} {room : S → ℕ} → WriterLaws put room → (s : WriterState put room K) → (bytes : List ℕ) × AreZeros 0 bytes
    × Took bytes s s
none_took laws s = ([], (refl, tt), record { same = same_refl s; sound = writer_sound_refl s; content = sym (laws.nil s.content) })

-- one more piece of 64 zeros
pub more_took : {S K : Type 0} {put : S → List ℕ → S} {room : S → ℕ} → WriterLaws put room → (i : ℕ) (old mid new : WriterState put room K) (piece : List ℕ)
    → (i + 1) * 64 ≤ room old.content → AreZeros 64 piece → ((bytes : List ℕ) × AreZeros (i * 64) bytes × Took bytes old mid) → Took piece mid new
    → (bytes : List ℕ) × AreZeros ((i + 1) * 64) bytes × Took bytes old new
more_took {put = put} {room = room} laws i old mid new piece fits zeros (bytes, before, one) two = (
  bytes ++ piece,
  (omega (arith, length-append bytes piece, before.0, zeros.0), each_append (λ d. d ≡ 0) bytes piece before.1 zeros.1),
  record {
    same = same_trans one.same two.same;
    sound = writer_sound_trans one.sound two.sound;
    content = two.content ∙ ap (λ c. put c piece) one.content ∙ laws.join old.content bytes piece (omega (arith, fits, before.0, zeros.0));
  },
)

-- n bytes were refused
pub block_unwritten : {S K : Type 0} {put : S → List ℕ → S} {room : S → ℕ} → WriterLaws put room
    → (n : ℕ) (old new : WriterState put room K) (v : Unit) (e : IoWriteError) → BytesWriteRefused n old new e
    → WriteRefused (block_write n) old new v (writing.Io e)
block_unwritten laws n old new v e refused =
    let long = length-replicate n 0 in encoding_unwritten (block_write n) v (replicate n 0) (long, all_zero n) long laws old new e
    (subst (λ m. BytesWriteRefused m old new e) (sym long) refused)

pub block_halted : {S K : Type 0} {put : S → List ℕ → S} {room : S → ℕ} → WriterLaws put room
    → (n : ℕ) (old new : WriterState put room K) (v : Unit) (e : IoWriteError) → BytesWriteRefused n old new e
    → Stopped (block_write n) old new v (writing.Io e)
block_halted laws n old new v e refused = nothing_stopped laws old new (writing.Io e) refused.0.content (piece_denied n old new e refused)

-- Calls made in order.
use Rattle.std.proofs.Common.{◌≡◌, ℕ, IsTrue, sym, subst, ◌∙◌}
use Rattle.wincode_io.specs.declared.error.ReadError.{ReadError}
use Rattle.wincode_io.specs.declared.error.ReadError.TheVariants.{ReadSizeLimit, UnsupportedZeroCopy, Io, OutOfMemory}
use Rattle.wincode_io.specs.PlaceLaws.{stays_trans, tells_on}
use Rattle.wincode_io.specs.Readers.{ReaderState, Stays, IsSound, BytesReadRefused}
use Rattle.wincode_io.specs.FailureLaws.{told_on}
use Rattle.wincode_io.specs.Sources.{SourceState}
use Rattle.wincode_io.specs.Streams.{Streamed, StreamRefused}

-- refused after it stayed, and its device did not fail
pub refused_on : (n : ℕ) (a b c : ReaderState) (e : ReadError) → Stays a b → IsSound a b → ((m : ℕ) → BytesReadRefused ⊥ ⊥ m b c e) → BytesReadRefused ⊥ ⊥ n a c e
refused_on n a b c e h sound k = (stays_trans h (k n).0, tells_on a b c e sound (k n).1, (k n).2)

-- so of a stream, which had not failed in between
pub stream_refused_on : {S : Type 0} (state : S → SourceState) (n : ℕ) (a b c : Streamed S) (e : ReadError) → b.has_failed ≡ a.has_failed
    → StreamRefused state n b c e → StreamRefused state n a c e
stream_refused_on state n a b c (ReadSizeLimit m) same h = (h.0, λ fits. ((h.1 fits).0, λ failed. (h.1 fits).1 (subst IsTrue (sym same) failed)))
stream_refused_on state n a b c UnsupportedZeroCopy same h = h
stream_refused_on state n a b c (Io e) same h = (h.0, told_on a.has_failed b.has_failed c.has_failed (state c.source).last e same h.1)
stream_refused_on state n a b c OutOfMemory same h = h

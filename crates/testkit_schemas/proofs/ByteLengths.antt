-- Writing a length in one byte.
use Rattle.std.proofs.Common.{◌≡◌, ℕ, List, [], ◌∷◌, length, subst, inl, Some}
use Rattle.wincode_io.specs.Writers.{WriterState, WriterLaws, BytesWriteRefused}
use Rattle.wincode_base.specs.Lengths.{length_write, encoding_len}
use Rattle.wincode_base.specs.Outcomes.{Stopped, PieceWriteRefused}
use Rattle.wincode_base.specs.WriteSequences.{encoding_stopped}
use Rattle.wincode_base.specs.declared.error.WriteError.TheVariants as writing
use Rattle.wincode_io.specs.declared.error.WriteError.{WriteError as IoWriteError}
use Rattle.testkit_schemas.specs.ByteLengths.{byte_scheme}

-- the byte of a length was refused
pub byte_halted : {S K : Type 0} {put : S → List ℕ → S} {room : S → ℕ} {old new : WriterState put room K} (laws : WriterLaws put room) (n : ℕ)
    (is : byte_scheme.encoding n ≡ Some (n ∷ [])) (size : length (n ∷ []) ≡ encoding_len (byte_scheme.encoding n))
    (e : IoWriteError) → BytesWriteRefused (length (n ∷ [])) old new e → Stopped (length_write byte_scheme) old new n (writing.Io e)
byte_halted {room = room} {old = old} {new = new} laws n is size e d =
    encoding_stopped (length_write byte_scheme) n (n ∷ []) is size laws old new e d
    (λ x. inl ((n ∷ [], is), subst (λ m. PieceWriteRefused m (room old.content) [] (writing.Io e)) size x))

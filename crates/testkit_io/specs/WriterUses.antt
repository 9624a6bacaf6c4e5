-- What writes in parts leave.
use Rattle.std.specs.Prelude.{⊤, ◌≡◌, ℕ, ◌-◌, ◌<◌, ◌⊎◌, List, length}
use Rattle.wincode_io.specs.declared.error.WriteError.{WriteError}
use Rattle.wincode_io.specs.declared.error.WriteError.TheVariants.{WriteSizeLimit, Io, OutOfMemory}
use Rattle.wincode_io.specs.Writers.{WriterState, Added, BytesWriteRefused, WriteRefusedFor, byte_limit}

-- Two parts were refused: the first was, or it was added and then the second was refused.
abbrev pub BothWriteRefused : {S K : Type 0} {put : S → List ℕ → S} {room : S → ℕ} → List ℕ → List ℕ → WriterState put room K → WriterState put room K
    → WriteError → Type 0
BothWriteRefused {K = K} {put = put} {room = room} first second old new e =
    BytesWriteRefused (length first) old new e
    ⊎ ((mid : WriterState put room K) × Added first old mid × BytesWriteRefused (length second) mid new e)

-- n bytes were refused where room bytes are left
abbrev pub IsOverrun : ℕ → ℕ → WriteError → Type 0
IsOverrun n room e = (room < n) × (e ≡ WriteSizeLimit n)

-- n bytes were refused at the position of a cursor that grows, as far as the trait says: `usize` leaves less, or memory
abbrev pub IsUngrown : ℕ → ℕ → WriteError → Type 0
IsUngrown position n (WriteSizeLimit m) = (byte_limit - position < n) × (m ≡ n)
IsUngrown position n (Io e) = ⊥
IsUngrown position n OutOfMemory = ⊤

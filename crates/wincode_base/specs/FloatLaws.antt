-- The laws of floats of which many are read or written at once.
use Rattle.std.proofs.Common.{◌≡◌, ℕ, List, [], length, refl, sym, true}
use Rattle.std.specs.Prelude.{to_bits, from_bits}
use lib.Ieee.{Format}
use Rattle.wincode_io.specs.Bytes.{IsBytes}
use Rattle.wincode_io.specs.FormLaws.{number_form}
use Rattle.wincode_io.specs.Numbers.{worth}
use Rattle.wincode_base.specs.Leaves.{number_read}
use Rattle.wincode_base.specs.Made.{AreBits, made_read}

-- k bytes read as the float of the number that they are
pub form_of_float : (f : Format) (k : ℕ) (b : List ℕ) → IsBytes b → length b ≡ k
    → (made_read (λ v. v) (AreBits f) [] (number_read k true)).reads b (to_bits f (from_bits f (worth b)))
form_of_float f k b all long =
    let l = number_form k in
    (worth b, to_bits f (from_bits f (worth b)), (l.valid_value b all long, sym (l.form_value b all long)), refl, refl)

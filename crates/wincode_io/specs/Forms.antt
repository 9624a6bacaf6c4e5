-- Byte forms: values that stand as bytes of one size, alone and one after another.
use Rattle.std.specs.Prelude.{◌≡◌, ℕ, zero, suc, ◌*◌, List, [], ◌∷◌, ◌++◌, length, take, drop}
use Rattle.wincode_io.specs.Bytes.{IsBytes}

-- Form and value are inverse to each other between the proper values and all lists of `size` bytes.
pub record IsByteForm {X : Type 0} (is_valid : X → Type 0) (size : ℕ) (form : X → List ℕ) (value : List ℕ → X) : Type 0 where
  pub long : (v : X) → is_valid v → length (form v) ≡ size
  pub bytes : (v : X) → is_valid v → IsBytes (form v)
  pub value_form : (v : X) → is_valid v → value (form v) ≡ v
  pub valid_value : (b : List ℕ) → IsBytes b → length b ≡ size → is_valid (value b)
  pub form_value : (b : List ℕ) → IsBytes b → length b ≡ size → form (value b) ≡ b

-- form k of forms of s bytes
abbrev pub part : ℕ → List ℕ → ℕ → List ℕ
part s b k = take s (drop (k * s) b)

-- the values of n forms of s bytes
unfoldable pub values : {X : Type 0} → (List ℕ → X) → ℕ → ℕ → List ℕ → List X
values value s zero b = []
values value s (suc n) b = value (take s b) ∷ values value s n (drop s b)

-- b with the s bytes from k * s on replaced by f
abbrev pub edited : ℕ → List ℕ → ℕ → List ℕ → List ℕ
edited s b k f = take (k * s) b ++ (f ++ drop s (drop (k * s) b))

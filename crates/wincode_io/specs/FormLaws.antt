-- The byte forms of numbers, of arrays, and of what holds one of them.
use Rattle.std.specs.Int.{cast_signed, cast_unsigned, Width}
use Rattle.std.specs.Prelude.{◌≡◌, ℕ, ◌*◌, ◌^◌, ◌<◌, List, [], ◌∷◌, length, FitsSigned}
use Rattle.std.specs.List.{All, flat_map}
use mir.Val.{bits}
use mir.ValLaws.{of_z_fits, to_z-Fits}
use Rattle.std.proofs.Common.{sym, ap, ◌∙◌, get_or, zero, suc, refl, arith}
use Rattle.std.proofs.lemmas.Int.{to_z-of_z, of_z-to_z}
use Rattle.wincode_io.specs.Numbers.{le, worth}
use Rattle.wincode_io.specs.NumberLaws.{length-le, le-bytes, worth-le, worth_within, le-worth_within}
use Rattle.wincode_io.specs.Forms.{IsByteForm, values}
use Rattle.wincode_io.specs.JoinedForms.{length-joined, IsBytes-joined, values-joined, length-values, All-values, joined-values}

-- a number of k bytes
pub number_form : (k : ℕ) → IsByteForm (λ v. v < 256 ^ k) k (le k) worth
number_form k = record {
  long = λ v h. length-le k v;
  bytes = λ v h. le-bytes k v;
  value_form = λ v h. worth-le k v h;
  valid_value = λ b h e. worth_within k b h e;
  form_value = λ b h e. le-worth_within k b h e;
}

-- a signed number, as its two's complement
pub signed_form : (w : Width) (k : ℕ) → 2 ^ bits w ≡ 256 ^ k → IsByteForm (FitsSigned w) k (λ z. le k (cast_unsigned w z)) (λ b. cast_signed w (worth b))
signed_form w k same = record {
  long = λ z h. length-le k (cast_unsigned w z);
  bytes = λ z h. le-bytes k (cast_unsigned w z);
  value_form = λ z h. ap (cast_signed w) (worth-le k (cast_unsigned w z) (rw (← same) ((of_z_fits w z h).fits))) ∙ to_z-of_z w z h;
  valid_value = λ b h e. let small : worth b < 2 ^ bits w = rw same (worth_within k b h e) in to_z-Fits w (worth b) (record { fits = small });
  form_value = λ b h e. let small : worth b < 2 ^ bits w = rw same (worth_within k b h e) in ap (le k) (of_z-to_z w (worth b) small) ∙ le-worth_within k b h e;
}

-- n values, one form after another
pub array_form : {X : Type 0} {is_valid : X → Type 0} {size : ℕ} {form : X → List ℕ} {value : List ℕ → X} (n : ℕ) → IsByteForm is_valid size form value
    → IsByteForm (λ v. (length v ≡ n) × All is_valid v) (n * size) (λ v. flat_map form v) (values value size n)
array_form {X} {is_valid} {size} {form} {value} n l = record {
  long = λ v h. length-joined form size v (λ k d i. l.long (get_or v k d) (h.1 k d i)) ∙ ap (λ (m : ℕ). m * size) h.0;
  bytes = λ v h. IsBytes-joined form size v (λ k d i. l.bytes (get_or v k d) (h.1 k d i));
  value_form = λ v h. ap (λ (m : ℕ). values value size m (flat_map form v)) (sym h.0)
      ∙ values-joined value size form v (λ k d i. l.long (get_or v k d) (h.1 k d i)) (λ k d i. l.value_form (get_or v k d) (h.1 k d i));
  valid_value = λ b h e. (length-values value size n b, All-values value size is_valid l.valid_value n b h e);
  form_value = λ b h e. joined-values value size form l.form_value n b h e;
}

-- a type whose values stand one to one for those of another has that one's form
pub wrapped_form : {X Y : Type 0} {is_valid : X → Type 0} {size : ℕ} {form : X → List ℕ} {value : List ℕ → X} (wrap : X → Y) (of : Y → X)
    → ((x : X) → of (wrap x) ≡ x) → ((y : Y) → wrap (of y) ≡ y) → IsByteForm is_valid size form value
    → IsByteForm (λ y. is_valid (of y)) size (λ y. form (of y)) (λ b. wrap (value b))
wrapped_form {is_valid = is_valid} {form = form} {value = value} wrap of back forth l = record {
  long = λ y h. l.long (of y) h;
  bytes = λ y h. l.bytes (of y) h;
  value_form = λ y h. ap wrap (l.value_form (of y) h) ∙ forth y;
  valid_value = λ b h e. rw (back (value b)) (l.valid_value b h e);
  form_value = λ b h e. ap form (back (value b)) ∙ l.form_value b h e;
}

-- bytes, as forms of one byte each, are their own values
pub byte_values : (n : ℕ) (b : List ℕ) → length b ≡ n → values worth 1 n b ≡ b
unfolding values worth
byte_values zero [] e = refl
byte_values zero (x ∷ b) e = absurd (omega (arith, e))
byte_values (suc n) [] e = absurd (omega (arith, e))
byte_values (suc n) (x ∷ b) e = ap (λ y. y ∷ values worth 1 n b) (omega arith) ∙ ap (λ ys. x ∷ ys) (byte_values n b (omega (arith, e)))

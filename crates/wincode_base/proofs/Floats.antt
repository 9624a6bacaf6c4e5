-- Many floats at once.
use Rattle.std.proofs.Common.{◌≡◌, sym, ap, ℕ, zero, suc, ◌*◌, List, [], ◌∷◌, length, map, take, drop, refl, arith, length-take, length-drop, take-append-drop}
use Rattle.std.proofs.lemmas.List.{nil_from_length}
use Rattle.wincode_io.specs.Bytes.{IsBytes}
use Rattle.wincode_io.specs.Forms.{values}
use Rattle.wincode_io.specs.JoinedForms.{IsBytes-take, IsBytes-drop, length-values}
use Rattle.wincode_io.specs.Joins.{Joined, AreItems}

map_values : {X V : Type 0} (see : X → V) (value : List ℕ → X) (s n : ℕ) (b : List ℕ) → map see (values value s n b) ≡ values (λ t. see (value t)) s n b
unfolding values
map_values see value s zero b = refl
map_values see value s (suc n) b = ap (λ xs. see (value (take s b)) ∷ xs) (map_values see value s n (drop s b))

module _ {V : Type 0} (reads : List ℕ → V → Type 0) (value : List ℕ → V) (s : ℕ) (one : (b : List ℕ) → IsBytes b → length b ≡ s → reads b (value b)) where
  joined : (n : ℕ) (b : List ℕ) → IsBytes b → length b ≡ n * s → Joined reads (values value s n b) b
  unfolding values
  joined zero b all long = nil_from_length b (omega (arith, long))
  joined (suc n) b all long = (
    take s b,
    drop s b,
    one (take s b) (IsBytes-take s b all) (omega (arith, long, length-take s b)),
    joined n (drop s b) (IsBytes-drop s b all) (omega (arith, long, length-drop s b)),
    sym (take-append-drop s b),
  )

-- the values of n forms of s bytes were read, each of which reads as what is seen of its value
pub forms_seen : {X V : Type 0} (reads : List ℕ → V → Type 0) (see : X → V) (value : List ℕ → X) (s : ℕ)
    → ((b : List ℕ) → IsBytes b → length b ≡ s → reads b (see (value b)))
    → (n : ℕ) (b : List ℕ) → IsBytes b → length b ≡ n * s → AreItems n reads b (map see (values value s n b))
forms_seen reads see value s one n b all long =
    let e = map_values see value s n b in
    rw e (length-values (λ t. see (value t)) s n b, joined reads (λ t. see (value t)) s one n b all long)

-- Texts joined in order.
use Rattle.std.specs.Prelude.{◌≡◌, ℕ, ◌+◌, List, [], ◌∷◌, ◌++◌, length}

-- of two encodings neither begins the other, and an encoding has one value
abbrev pub IsUnambiguous : {V : Type 0} → (List ℕ → V → Type 0) → Type 0
IsUnambiguous {V} reads = (a b x y : List ℕ) (v w : V) → reads a v → reads b w → a ++ x ≡ b ++ y → (a ≡ b) × (v ≡ w)

-- b is one encoding for each of the values, joined in order
abbrev pub Joined : {V : Type 0} → (List ℕ → V → Type 0) → List V → List ℕ → Type 0
Joined R [] b = b ≡ []
Joined R (v ∷ vs) b = (x : List ℕ) × (y : List ℕ) × R x v × Joined R vs y × (b ≡ x ++ y)

-- each value has the property
abbrev pub Each : {V : Type 0} → (V → Type 0) → List V → Type 0
Each P [] = Unit {0}
Each P (v ∷ vs) = P v × Each P vs

-- the sizes of the values, added up
abbrev pub total : {V : Type 0} → (V → ℕ) → List V → ℕ
total size [] = 0
total size (v ∷ vs) = size v + total size vs

-- b is n items
abbrev pub AreItems : {V : Type 0} → ℕ → (List ℕ → V → Type 0) → List ℕ → List V → Type 0
AreItems n reads b vs = (length vs ≡ n) × Joined reads vs b

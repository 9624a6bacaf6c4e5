-- What keys of maps and items of heaps keep beyond their schemas.
use Rattle.std.specs.Prelude.{◌≡◌, Bool, true}
use Rattle.std.specs.Bool.{Decides}

-- where the same is seen of two, they are equal
abbrev pub IsAlike : {K A : Type 0} → (K → K → Bool) → (K → A) → Type 0
IsAlike {K} eq model = (x y : K) → model x ≡ model y → eq x y ≡ true

-- a test tells whether two are the same
abbrev pub IsDecidable : Type 0 → Type 0
IsDecidable V = (a b : V) → (same : Bool) × Decides same (a ≡ b)

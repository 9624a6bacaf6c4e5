-- The first part of what is read, and no other.
use Rattle.std.proofs.Common.{◌≡◌, ◌∙◌, ◌⊎◌, inl, inr, refl, sym, ap, true, false, List, [], ◌∷◌, ◌++◌, length}
use Rattle.wincode_describe.specs.Parts.{seen, part_bytes}
use Rattle.wincode_describe.specs.Places.{number_of}
use Rattle.wincode_describe.specs.declared.shown.Shown.{Shown}
use Rattle.wincode_c.specs.declared.depths.Front.{Front}

-- what is kept of a part: the number that it has, if it has one, and how many bytes
abbrev pub front_of : Shown → Front
front_of part = record { number = number_of (seen part); size = length (part_bytes (seen part)); is_there = true }

-- Nothing was given, and it is as before; or one part was, where none was before, and this is kept of it.
abbrev pub TookFront : Front → List Shown → Front → Type 0
TookFront s xs t = ((xs ≡ []) × (t ≡ s)) ⊎ ((s.is_there ≡ false) × ((part : Shown) × (xs ≡ part ∷ []) × (t ≡ front_of part)))

-- what is given at no step, and what is given in two
pub none_given : (s : Front) → TookFront s [] s
none_given s = inl (refl, refl)

pub both_given : (s t u : Front) (xs ys : List Shown) → TookFront s xs t → TookFront t ys u → TookFront s (xs ++ ys) u
both_given s t u xs ys (inl a) (inl b) = inl (ap (λ v. v ++ ys) a.0 ∙ b.0, b.1 ∙ a.1)
both_given s t u xs ys (inl a) (inr b) = inr (ap (λ f. f.is_there) (sym a.1) ∙ b.0, (b.1.0, ap (λ v. v ++ ys) a.0 ∙ b.1.1, b.1.2))
both_given s t u xs ys (inr a) (inl b) = inr (a.0, (a.1.0, ap (λ v. v ++ ys) a.1.1 ∙ ap (λ v. a.1.0 ∷ v) b.0, b.1 ∙ a.1.2))
both_given s t u xs ys (inr a) (inr b) = let h : true ≡ false = ap (λ f. f.is_there) (sym a.1.2) ∙ b.0 in absurd (cc)

-- Addresses are told apart by their octets.
use Rattle.std.proofs.Common.{◌≡◌, ap, ℕ, ◌/◌, ◌%◌, List, [], ◌∷◌, length, map, refl, arith}
use Rattle.std.specs.Cmp.Lexicographic.{pointwise}
use Rattle.std.specs.Net.Addr.{octets_of}
use Rattle.std.specs.Prelude.{nat_eq}
use Rattle.wincode_base.specs.KeyLaws.{items_alike, nat_alike}
use Rattle.wincode_base.specs.Keys.{IsAlike}

segment_same : (s t : ℕ) → s / 256 ≡ t / 256 → s % 256 ≡ t % 256 → s ≡ t
segment_same s t h l = omega (arith, h, l)

segments_same : (xs ys : List ℕ) → map (λ v. v) (octets_of xs) ≡ map (λ v. v) (octets_of ys) → map (λ v. v) xs ≡ map (λ v. v) ys
segments_same [] [] e = refl
segments_same [] (y ∷ ys) e = absurd (omega (arith, ap length e))
segments_same (x ∷ xs) [] e = absurd (omega (arith, ap length e))
segments_same (x ∷ xs) (y ∷ ys) e =
    let high : x / 256 ≡ y / 256 = cc in
    let low : x % 256 ≡ y % 256 = cc in
    let same : x ≡ y = segment_same x y high low in
    let rest : map (λ v. v) (octets_of xs) ≡ map (λ v. v) (octets_of ys) = cc in
    let behind : map (λ v. v) xs ≡ map (λ v. v) ys = segments_same xs ys rest in
    cc

-- segments of which the octets are the same are equal
pub segments_alike : IsAlike (pointwise nat_eq) (λ segments. map (λ v. v) (octets_of segments))
segments_alike x y e = items_alike nat_alike x y (segments_same x y e)

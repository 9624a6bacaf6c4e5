-- The laws of what takes parts.
use Rattle.std.proofs.Common.{◌≡◌, ◌∙◌, sym, ap, ℕ, ◌+◌, List, [], ◌++◌, map, length, arith, append_assoc, append-nil, length-append}
use Rattle.std.proofs.lemmas.List.{map-append}
use Rattle.wincode_describe.specs.Parts.{seen, parts_bytes}
use Rattle.wincode_describe.specs.TypeBytes.{parts_append}
use Rattle.wincode_describe.specs.declared.shown.Shown.{Shown}

-- a list to which no part is added, and one to which parts are added in two steps
pub none_more : (s : List Shown) → s ≡ s ++ []
none_more s = sym (append-nil s)

pub more_joins : (s t u xs ys : List Shown) → t ≡ s ++ xs → u ≡ t ++ ys → u ≡ s ++ (xs ++ ys)
more_joins s t u xs ys one other = other ∙ ap (λ v. v ++ ys) one ∙ append_assoc s xs ys

-- how many bytes parts have
abbrev pub parts_size : List Shown → ℕ
parts_size xs = length (parts_bytes (map seen xs))

-- a number to which nothing is added, and one to which the sizes of parts are added in two steps
pub none_counted : (n : ℕ) → n ≡ n + parts_size []
none_counted n = omega arith

pub more_counted : (a b c : ℕ) (xs ys : List Shown) → b ≡ a + parts_size xs → c ≡ b + parts_size ys → c ≡ a + parts_size (xs ++ ys)
more_counted a b c xs ys one other =
    let both : parts_size (xs ++ ys) ≡ parts_size xs + parts_size ys = ap (λ ps. length (parts_bytes ps)) (map-append seen xs ys)
    ∙ ap length (parts_append (map seen xs) (map seen ys)) ∙ length-append (parts_bytes (map seen xs)) (parts_bytes (map seen ys)) in
    omega (arith, one, other, both)

-- The laws of what counts parts.
use Rattle.std.proofs.Common.{◌≡◌, ℕ, ◌+◌, List, [], ◌++◌, length, arith, length-append}
use Rattle.wincode_describe.specs.SinkLaws.{parts_size}
use Rattle.wincode_describe.specs.SinkLaws as bytes
use Rattle.wincode_describe.specs.declared.shown.Shown.{Shown}

-- numbers to which nothing is added, and those to which parts are added in two steps
pub none_counted : (n k : ℕ) → (n ≡ n + parts_size []) × (k ≡ k + length {A = Shown} [])
none_counted n k = (bytes.none_counted n, omega arith)

pub more_counted : (a b c i j k : ℕ) (xs ys : List Shown) → (b ≡ a + parts_size xs) × (j ≡ i + length xs) → (c ≡ b + parts_size ys) × (k ≡ j + length ys)
    → (c ≡ a + parts_size (xs ++ ys)) × (k ≡ i + length (xs ++ ys))
more_counted a b c i j k xs ys one other =
    (bytes.more_counted a b c xs ys one.0 other.0, omega (arith, one.1, other.1, length-append xs ys))

use Rattle.std.proofs.Common.{◌≡◌, ℕ, List, [], ◌∷◌, length, take, refl, ap, arith, slice_index_or}
use Rattle.wincode_io.proofs.reader.Reader.peek.Goals as goal

-- the byte that a fill of one showed
first_shown : (xs bytes : List ℕ) → bytes ≡ take 1 xs → length bytes ≡ 1 → (more : List ℕ) × (xs ≡ slice_index_or bytes 0 0 ∷ more)
first_shown [] bytes e h = absurd (omega (arith, ap length e))
first_shown (x ∷ xs) bytes e h = (xs, rw e refl)

pub returns : goal.returns
returns g c =
    let shown = c.in_ok-bytes.ensures.shown in
    let h = rw c.in_ok-bytes.was at c.fill_exact.follows.holds-at-none in
    ((refl, λ _. tt, (h.0, (omega arith, h.1.1), tt)), record { shown = λ told. first_shown _ _ (shown.1.1 told) shown.0; fills = tt })

use Rattle.std.proofs.Common.{rules, ◌∙◌, sym, ◌≡◌, ℕ, ◌≤◌, length, take, List, ◌++◌, arith, lit≤}
use Rattle.std.proofs.lemmas.Grind.{common_steps}
use Rattle.wincode_io.proofs.Served.{windowed, lost, served, window_served}
use Rattle.testkit_io.proofs.readers.pairs.Goals as goal

-- a front and a front of what comes after it
through : (bytes outer after inner first second : List ℕ) → 6 ≤ length bytes → outer ≡ take 6 bytes → outer ≡ take 2 outer ++ after
    → first ≡ take 2 outer → inner ≡ take 4 after → second ≡ take 2 inner → first ++ second ≡ take 4 bytes
through bytes outer after inner first second enough e f g h i = grind (arith, common_steps)

pub returns-in_err-copy_into_array-clause-err : goal.returns-in_err-copy_into_array-clause-err
returns-in_err-copy_into_array-clause-err g c =
    let refused = c.in_err-copy_into_array.ensures.err in
    let outer = windowed c.in_ok-outer.ensures.ok in
    absurd (served 2 _ _ _ outer (lit≤ tt) refused.0 refused.2)

pub returns-in_err-inner-clause-err : goal.returns-in_err-inner-clause-err
returns-in_err-inner-clause-err g c =
    let refused = c.in_err-inner.ensures.err in
    let taken = c.in_ok-copy_into_array.ensures.ok in
    let window = c.in_ok-outer.ensures.ok in
    let outer = lost (windowed window) taken.loses in
    let h = window_served 4 _ _ _ outer (lit≤ tt) refused.0 refused.2 in
    let counts = sym (refused.0.kept.counts_windows ∙ taken.loses.kept.counts_windows ∙ window.counts_windows) ∙ h.0 in
    let lost_all = window.takes.loses in
    let full = h.1 in search (rules, counts, lost_all, full)

pub returns-in_err-copy_into_slice-clause-err : goal.returns-in_err-copy_into_slice-clause-err
returns-in_err-copy_into_slice-clause-err g c =
    let refused = c.in_err-copy_into_slice.ensures.err in
    let inner = windowed c.in_ok-inner.ensures.ok in
    absurd (served 2 _ _ _ inner (lit≤ tt) refused.0 refused.2)

pub returns-clause-value : goal.returns-clause-value
returns-clause-value g c told =
    let outer = c.in_ok-outer.ensures.ok.takes in
    let first = c.in_ok-copy_into_array.ensures.ok in
    let inner = c.in_ok-inner.ensures.ok.takes in
    let second = c.in_ok-copy_into_slice.ensures.ok in
    let whole = windowed c.in_ok-outer.ensures.ok in
    let rest = lost whole first.loses in
    let part = windowed c.in_ok-inner.ensures.ok in
    through _ _ _ _ _ _ (outer.loses.rest told).0 (outer.front told) (first.loses.rest whole.is_known).1 (first.front whole.is_known)
    (inner.front rest.is_known) (second.front part.is_known)

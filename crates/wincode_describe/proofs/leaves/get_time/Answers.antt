use Rattle.std.proofs.Common.{rules, ◌≡◌, ap, refl, arith, ◌∷◌, [], ◌+◌, ◌*◌, ◌/◌, ◌^◌, ◌<◌, ◌≤◌}
use Rattle.wincode_describe.specs.Parts.{Std}
use Rattle.wincode_describe.specs.declared.shown.Shown.TheVariants as shown
use Rattle.wincode_describe.proofs.Gets.{time_refused, time_got, time_nothing}
use Rattle.wincode_describe.proofs.leaves.get_time.Goals as goal

pub returns-in_err-seconds : goal.returns-in_err-seconds
returns-in_err-seconds g c =
    let o = c.in_err-seconds.ensures in
    time_refused c.args.kind c.args.limit _ _ c.from_residual.ensures o.refused

pub returns-then-whole-limit : goal.returns-then-whole-limit
returns-then-whole-limit g c =
    let s = c.in_ok-seconds.seconds in
    let n = c.in_ok-seconds.nanos in
    let past : c.args.limit ≤ s + n / 1_000_000_000 = search rules in
    time_nothing c.args.kind c.args.limit (s, n) c.in_ok-seconds.ensures.ok past _ (λ m. (refl, m))

pub returns : goal.returns
returns g c =
    let s = c.in_ok-seconds.seconds in
    let n = c.in_ok-seconds.nanos in
    let below : s + n / 1_000_000_000 < c.args.limit = search rules in
    let same : s + 256 ^ 8 * n ≡ s + n * 18446744073709551616 = omega arith in
    time_got c.args.kind c.args.limit (s, n) (shown.Std c.args.kind (s + n * 18446744073709551616)) (ap (λ t. Std c.args.kind t ∷ []) same)
    c.in_ok-seconds.ensures.ok below

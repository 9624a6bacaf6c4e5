use Rattle.std.proofs.Common.{rules, arith, ◌<◌, ◌≤◌}
use Rattle.wincode_io.specs.ShortNumberLaws.{nothing_grouped, grouped_last, grouped_before, grouped_after, grouped_some, grouped_only}
use Rattle.wincode_base.proofs.len.short_vec.short_in_front.Goals.{then-third-eq0-via-then-third-eq0, then-third-eq0-via-else-third-eq0+then-third-gt3}
use Rattle.wincode_base.proofs.len.short_vec.short_in_front.Goals as goal

pub returns-in_err-first : goal.returns-in_err-first
returns-in_err-first c = rw c.from_residual.ensures (λ n b. nothing_grouped 2 n _ c.in_err-first.ensures.cases b.1)

pub returns-then-first-lt128 : goal.returns-then-first-lt128
returns-then-first-lt128 c = (omega (arith, c.if-first-lt128.true), grouped_last 2 _ c.in_ok-first.ensures.cases.0 c.if-first-lt128.true)

pub returns-in_err-second : goal.returns-in_err-second
returns-in_err-second c =
    let least : 128 ≤ c.in_ok-first.field-0-0.now = omega (arith, c.if-first-lt128.false) in
    rw c.from_residual-in_err-second.ensures (λ n b. nothing_grouped 1 _ _ c.in_err-second.ensures.cases
    (grouped_after 1 _ c.in_ok-first.ensures.cases.0 n least b.1).1)

pub returns-then-second-eq0 : goal.returns-then-second-eq0
returns-then-second-eq0 c = λ n b.
    let least : 128 ≤ c.in_ok-first.field-0-0.now = omega (arith, c.if-first-lt128.false) in
    let after = grouped_after 1 _ c.in_ok-first.ensures.cases.0 n least b.1 in
    let some = grouped_some 0 _ c.in_ok-second.ensures.cases.0 _ after.0 after.1 in absurd (omega (arith, some, c.if-second-eq0.true))

pub returns-then-second-lt128 : goal.returns-then-second-lt128
returns-then-second-lt128 c =
    let least : 128 ≤ c.in_ok-first.field-0-0.now = omega (arith, c.if-first-lt128.false) in
    let most : c.in_ok-first.field-0-0.now < 256 = search rules in
    let some : 0 < c.in_ok-second.field-0-0.now = omega (arith, c.if-second-eq0.false) in (
      omega (arith, most, c.if-second-lt128.true),
      grouped_before 1 _ c.in_ok-first.ensures.cases.0 _ least most some
          (grouped_last 1 _ c.in_ok-second.ensures.cases.0 c.if-second-lt128.true),
    )

pub returns-in_err-third : goal.returns-in_err-third
returns-in_err-third c =
    let least : 128 ≤ c.in_ok-first.field-0-0.now = omega (arith, c.if-first-lt128.false) in
    let more : 128 ≤ c.in_ok-second.field-0-0.now = omega (arith, c.if-second-lt128.false) in
    rw c.from_residual-in_err-third.ensures (λ n b. let after = grouped_after 1 _ c.in_ok-first.ensures.cases.0 n least b.1 in
    nothing_grouped 0 _ _ c.in_err-third.ensures.cases (grouped_after 0 _ c.in_ok-second.ensures.cases.0 _ more after.1).1)

pub returns-then-third-eq0 : goal.returns-then-third-eq0
returns-then-third-eq0 c = λ n b.
    let least : 128 ≤ c.in_ok-first.field-0-0.now = omega (arith, c.if-first-lt128.false) in
    let more : 128 ≤ c.in_ok-second.field-0-0.now = omega (arith, c.if-second-lt128.false) in
    let after = grouped_after 1 _ c.in_ok-first.ensures.cases.0 n least b.1 in
    let last = grouped_after 0 _ c.in_ok-second.ensures.cases.0 _ more after.1 in
    let same = grouped_only _ _ c.in_ok-third.ensures.cases.0 last.1 in
    elim c.then-third-eq0.branch [
      | then-third-eq0-via-then-third-eq0 w ↦ absurd (omega (arith, last.0, same, w.if-third-eq0.true))
      | then-third-eq0-via-else-third-eq0+then-third-gt3 w ↦ absurd (omega (arith, b.0, same, w.if-third-gt3.true))
    ]

pub returns : goal.returns
returns c =
    let least : 128 ≤ c.in_ok-first.field-0-0.now = omega (arith, c.if-first-lt128.false) in
    let most : c.in_ok-first.field-0-0.now < 256 = search rules in
    let more : 128 ≤ c.in_ok-second.field-0-0.now = omega (arith, c.if-second-lt128.false) in
    let below : c.in_ok-second.field-0-0.now < 256 = search rules in
    let some : 0 < c.in_ok-third.field-0-0.now = omega (arith, c.if-third-eq0.false) in
    let few : c.in_ok-third.field-0-0.now < 4 = omega (arith, c.if-third-gt3.false) in
    let two = grouped_before 0 _ c.in_ok-second.ensures.cases.0 _ more below some (grouped_last 0 _ c.in_ok-third.ensures.cases.0 (omega (arith, few))) in
    (omega (arith, most, below, few), grouped_before 1 _ c.in_ok-first.ensures.cases.0 _ least most (omega (arith, more, some)) two)

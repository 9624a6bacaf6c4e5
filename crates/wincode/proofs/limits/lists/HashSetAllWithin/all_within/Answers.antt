use Rattle.std.proofs.Common.{rules, ◌≡◌, length, refl}
use Rattle.wincode.proofs.Within.{within_more, within_all, past_item}
use Rattle.wincode.proofs.limits.lists.HashSetAllWithin.all_within.Goals as goal

pub returns-then-not-is_within-clause-past : goal.returns-then-not-is_within-clause-past
returns-then-not-is_within-clause-past g c = λ is all.
    let K = g.K.SchemaWrite in
    past_item K.writing.fits K.model K.is_valid c.loop-key.invariant c.in-Some.ensures.steps (c.if-not-is_within.ensures.past refl) all

pub loop-key-preserved : goal.loop-key-preserved
loop-key-preserved g c =
    let K = g.K.SchemaWrite in
    within_more K.writing.fits K.model K.is_valid c.loop-key.invariant c.in-Some.ensures.steps (c.if-not-is_within.ensures.within refl)

pub returns-clause-within : goal.returns-clause-within
returns-clause-within g c = λ is valid.
    let K = g.K.SchemaWrite in
    let none : length c.loop-key.key-iterator ≡ 0 = search rules in
    within_all K.writing.fits K.model K.is_valid c.loop-key.invariant none valid

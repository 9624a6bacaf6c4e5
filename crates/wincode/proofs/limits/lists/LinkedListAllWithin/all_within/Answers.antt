use Rattle.std.proofs.Common.{rules, ◌≡◌, length, refl}
use Rattle.wincode.proofs.Within.{within_more, within_all, past_item}
use Rattle.wincode.proofs.limits.lists.LinkedListAllWithin.all_within.Goals as goal

pub returns-then-not-is_within-clause-past : goal.returns-then-not-is_within-clause-past
returns-then-not-is_within-clause-past g c = λ is all.
    let T = g.T.SchemaWrite in
    past_item T.writing.fits T.model T.is_valid c.loop-item.invariant c.in-Some.ensures.steps (c.if-not-is_within.ensures.past refl) all

pub loop-item-preserved : goal.loop-item-preserved
loop-item-preserved g c =
    let T = g.T.SchemaWrite in
    within_more T.writing.fits T.model T.is_valid c.loop-item.invariant c.in-Some.ensures.steps (c.if-not-is_within.ensures.within refl)

pub returns-clause-within : goal.returns-clause-within
returns-clause-within g c = λ is valid.
    let T = g.T.SchemaWrite in
    let none : length c.loop-item.item-iterator ≡ 0 = search rules in
    within_all T.writing.fits T.model T.is_valid c.loop-item.invariant none valid

use Rattle.std.proofs.Common.{rules, ◌≡◌, length, refl}
use Rattle.wincode_collect.specs.Seen.{sees}
use Rattle.wincode_base.specs.Pairs.{pair_write}
use Rattle.wincode.proofs.Within.{within_more, within_all, past_item}
use Rattle.wincode.proofs.limits.lists.HashMapAllWithinMembers2.all_within.Goals as goal

pub returns-then-not-is_within-clause-past : goal.returns-then-not-is_within-clause-past
returns-then-not-is_within-clause-past g c = λ is all.
    let K = g.K.SchemaWrite in
    let V = g.V.SchemaWrite in
    past_item (pair_write K.writing V.writing).fits (sees K.model V.model) (λ e. K.is_valid e.0 × V.is_valid e.1)
    {e = (c.in-Some.key.now, c.in-Some.value.now)} c.loop-key.invariant c.in-Some.ensures.steps (λ f. c.if-not-is_within.ensures.past refl f.0) all

pub returns-then-not-is_within-2-clause-past : goal.returns-then-not-is_within-2-clause-past
returns-then-not-is_within-2-clause-past g c = λ is all.
    let K = g.K.SchemaWrite in
    let V = g.V.SchemaWrite in
    past_item (pair_write K.writing V.writing).fits (sees K.model V.model) (λ e. K.is_valid e.0 × V.is_valid e.1)
    {e = (c.in-Some.key.now, c.in-Some.value.now)} c.loop-key.invariant c.in-Some.ensures.steps (λ f. c.if-not-is_within-2.ensures.past refl f.1) all

pub loop-key-preserved : goal.loop-key-preserved
loop-key-preserved g c =
    let K = g.K.SchemaWrite in
    let V = g.V.SchemaWrite in
    within_more (pair_write K.writing V.writing).fits (sees K.model V.model) (λ e. K.is_valid e.0 × V.is_valid e.1)
    {e = (c.in-Some.key.now, c.in-Some.value.now)} c.loop-key.invariant c.in-Some.ensures.steps
    (λ v. (c.if-not-is_within.ensures.within refl v.0, c.if-not-is_within-2.ensures.within refl v.1))

pub returns-clause-within : goal.returns-clause-within
returns-clause-within g c = λ is valid.
    let K = g.K.SchemaWrite in
    let V = g.V.SchemaWrite in
    let none : length c.loop-key.key-iterator ≡ 0 = search rules in
    within_all (pair_write K.writing V.writing).fits (sees K.model V.model) (λ e. K.is_valid e.0 × V.is_valid e.1) c.loop-key.invariant none valid

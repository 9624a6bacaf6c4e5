use Rattle.std.proofs.Common.{rules, ◌≤◌, length, refl}
use Rattle.std.proofs.lemmas.List.{take_all}
use Rattle.wincode_io.specs.JoinLaws.{each_map_at}
use Rattle.wincode.proofs.Within.{each_fits}
use Rattle.wincode.proofs.limits.lists.RefSliceAllWithin.all_within.Goals as goal

pub returns-then-not-is_within-clause-past : goal.returns-then-not-is_within-clause-past
returns-then-not-is_within-clause-past g c = λ is all.
    let T = g.T.SchemaWrite in
    c.if-not-is_within.ensures.past refl
    (each_map_at c.args.self.now.now c.loop-item.item-index c.item-item.result c.loop-item-test.true c.item-item.is T.model T.writing.fits all)

pub returns-clause-within : goal.returns-clause-within
returns-clause-within g c = λ is valid.
    let T = g.T.SchemaWrite in
    let xs = c.args.self.now.now in
    let over : length xs ≤ c.loop-item.item-index = search rules in
    each_fits T.writing.fits T.model T.is_valid xs (rw (take_all c.loop-item.item-index xs over) at c.loop-item.invariant) valid

use Rattle.std.proofs.Common.{refl}
use Rattle.wincode.proofs.Within.{runs_fit, fit_runs}
use Rattle.wincode.proofs.limits.lists.VecDequeAllWithin.all_within.Goals as goal

pub returns-then-all_within-clause-within : goal.returns-then-all_within-clause-within
returns-then-all_within-clause-within g c = λ is valid.
    let T = g.T.SchemaWrite in
    runs_fit T.writing.fits T.model T.is_valid _ _ _ c.as_slices.ensures.items (c.if-all_within.ensures.within refl) (c.all_within-then-all_within.ensures.within is) valid

pub returns-then-all_within-clause-past : goal.returns-then-all_within-clause-past
returns-then-all_within-clause-past g c = λ is f.
    let T = g.T.SchemaWrite in
    c.all_within-then-all_within.ensures.past is (fit_runs T.writing.fits T.model T.is_valid _ _ _ c.as_slices.ensures.items f).1

pub returns-else-all_within-clause-past : goal.returns-else-all_within-clause-past
returns-else-all_within-clause-past g c = λ is f.
    let T = g.T.SchemaWrite in
    c.if-all_within.ensures.past refl (fit_runs T.writing.fits T.model T.is_valid _ _ _ c.as_slices.ensures.items f).0

use Rattle.std.proofs.Common.{refl}
use Rattle.wincode.proofs.Within.{all_fit, list_fits, list_past}
use Rattle.wincode.proofs.limits.lists.list_is_within.Goals as goal

pub returns-then-not-admits-clause-past : goal.returns-then-not-admits-clause-past
returns-then-not-admits-clause-past g c = λ is f.
    let T = g.T.SchemaWrite in
    list_past g.Len.SeqLen.scheme T.writing T.model (g.C.ToItems.listed c.args.src.now) _ _ c.count.ensures.count c.counts.ensures
    (c.if-not-admits.ensures.past refl) f

pub returns-then-has_no_limits-clause-within : goal.returns-then-has_no_limits-clause-within
returns-then-has_no_limits-clause-within g c = λ is valid.
    let T = g.T.SchemaWrite in
    let xs = g.C.ToItems.listed c.args.src.now in
    list_fits g.Len.SeqLen.scheme g.Len.SeqLen.scheme_laws T.writing T.model xs _ _ c.count.ensures.count c.counts.ensures
    (c.if-not-admits.ensures.within refl) (all_fit T.writing.fits T.model T.is_valid (c.if-has_no_limits.ensures refl) xs valid)

pub returns-clause-within : goal.returns-clause-within
returns-clause-within g c = λ is valid.
    let T = g.T.SchemaWrite in
    let xs = g.C.ToItems.listed c.args.src.now in
    list_fits g.Len.SeqLen.scheme g.Len.SeqLen.scheme_laws T.writing T.model xs _ _ c.count.ensures.count c.counts.ensures
    (c.if-not-admits.ensures.within refl) (c.all_within.ensures.within is valid)

pub returns-clause-past : goal.returns-clause-past
returns-clause-past g c = λ is f. c.all_within.ensures.past is f.2

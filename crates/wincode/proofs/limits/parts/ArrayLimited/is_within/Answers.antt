use Rattle.std.proofs.Common.{refl}
use Rattle.wincode.proofs.Within.{all_fit, array_fits}
use Rattle.wincode.proofs.limits.parts.ArrayLimited.is_within.Goals as goal

pub returns-then-has_no_limits-clause-within : goal.returns-then-has_no_limits-clause-within
returns-then-has_no_limits-clause-within g c = λ is valid.
    let T = g.T.SchemaWrite in
    let xs = c.args.src.now in
    array_fits T.writing.fits T.model T.is_valid g.row.N xs (all_fit T.writing.fits T.model T.is_valid (c.if-has_no_limits.ensures refl) xs) valid

use Rattle.wincode.proofs.Within.{all_fit, array_fits}
use Rattle.wincode.proofs.limits.parts.ArrayLimited.has_no_limits.Goals as goal

pub returns : goal.returns
returns g c = λ none x valid.
    let T = g.T.SchemaWrite in
    array_fits T.writing.fits T.model T.is_valid g.row.N x (all_fit T.writing.fits T.model T.is_valid (c.has_no_limits.ensures none) x) valid

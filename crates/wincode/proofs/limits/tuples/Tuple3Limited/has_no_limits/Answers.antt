use Rattle.std.proofs.Common.{refl}
use Rattle.wincode.proofs.limits.tuples.Tuple3Limited.has_no_limits.Goals as goal

pub returns-then-has_no_limits : goal.returns-then-has_no_limits
returns-then-has_no_limits g c = λ none x valid.
    (c.if-has_no_limits.ensures refl x.0 valid.0, c.has_no_limits-then-has_no_limits.ensures none (x.1, x.2) valid.1)

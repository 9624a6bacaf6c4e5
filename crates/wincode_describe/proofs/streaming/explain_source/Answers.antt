use Rattle.std.proofs.Common.{ap, inl, refl}
use Rattle.wincode_base.specs.declared.error.ReadError.TheVariants as reading
use Rattle.wincode_describe.proofs.streaming.explain_source.Goals as goal

pub returns-in-Err : goal.returns-in-Err
returns-in-Err g c = rw c.new-in-Err.ensures.items (λ t. (_, refl), inl (ap reading.Io c.in-Err.ensures.err))

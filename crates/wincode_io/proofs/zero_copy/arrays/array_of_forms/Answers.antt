use Rattle.std.proofs.Common.{arith}
use Rattle.wincode_io.specs.JoinedForms.{are_values}
use Rattle.wincode_io.proofs.zero_copy.arrays.array_of_forms.Goals as goal

pub returns-then-this-eq0 : goal.returns-then-this-eq0
returns-then-this-eq0 g c =
    are_values g.T.ZeroCopy.value g.T.ZeroCopy.size g.row.N c.args.bytes.now c.from_fn.result c.from_fn.ensures.items.long
    (λ k d h. absurd (omega (arith, c.if-this-eq0.true, h)))

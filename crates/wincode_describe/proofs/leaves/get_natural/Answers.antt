use Rattle.std.proofs.Common.{true}
use Rattle.wincode_base.specs.Leaves.{number_read}
use Rattle.wincode_describe.specs.Types.{natural_shown, tag_bytes}
use Rattle.wincode_describe.proofs.Gets.{got_refused}
use Rattle.wincode_describe.proofs.leaves.get_natural.Goals as goal

pub returns-in_err-value : goal.returns-in_err-value
returns-in_err-value g c =
    let o = c.in_err-value.ensures in
    got_refused (natural_shown c.args.integer) (number_read (tag_bytes c.args.size) true) _ _ c.from_residual.ensures o.refused

use Rattle.wincode_describe.specs.Types.{nonzero_read}
use Rattle.wincode_describe.proofs.Gets.{show_got, nonzero_memory}
use Rattle.wincode_describe.proofs.Shows.{show_refused, began_none}
use Rattle.wincode_describe.proofs.leaves.show_nonzero.Goals as goal

pub returns-in_err-part : goal.returns-in_err-part
returns-in_err-part g c =
    let o = c.in_err-part.ensures in
    show_refused (nonzero_read c.args.integer) _ _ _ _ c.from_residual.ensures o.refused (began_none g.S.PartSink.sink_laws _ _)

pub returns : goal.returns
returns g c =
    let o = c.in_ok-part.ensures in
    show_got g.S.PartSink.sink_laws (nonzero_read c.args.integer) _ _ c.in_ok-part.part c.add.result o.ok
    (nonzero_memory (nonzero_read c.args.integer).reads _ _ _ o.ok c.args.integer) c.add.ensures.ok c.add.ensures.err

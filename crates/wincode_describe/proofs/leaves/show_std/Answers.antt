use Rattle.wincode_describe.specs.Types.{std_read}
use Rattle.wincode_describe.proofs.Gets.{show_got, std_memory}
use Rattle.wincode_describe.proofs.Shows.{show_refused, began_none}
use Rattle.wincode_describe.proofs.leaves.show_std.Goals as goal

pub returns-in_err-part : goal.returns-in_err-part
returns-in_err-part g c =
    let o = c.in_err-part.ensures in
    show_refused (std_read c.args.kind) _ _ _ _ c.from_residual.ensures o.refused (began_none g.S.PartSink.sink_laws _ _)

pub returns : goal.returns
returns g c =
    let o = c.in_ok-part.ensures in
    show_got g.S.PartSink.sink_laws (std_read c.args.kind) _ _ c.in_ok-part.part c.add.result o.ok
    (std_memory (std_read c.args.kind).reads _ _ _ o.ok c.args.kind) c.add.ensures.ok c.add.ensures.err

use Rattle.std.proofs.Common.{[]}
use Rattle.wincode_base.specs.ListLaws.{no_memory}
use Rattle.wincode_describe.specs.Types.{described_read}
use Rattle.wincode_describe.specs.declared.described.Described.TheVariants as type
use Rattle.wincode_describe.specs.declared.shown.Shown.TheVariants as shown
use Rattle.wincode_describe.proofs.Shows.{show_refused, show_last, began_none}
use Rattle.std.proofs.Common.{inr, refl}
use Rattle.wincode_describe.proofs.leaves.show_byte_array.Goals as goal

pub returns-in_err-bytes : goal.returns-in_err-bytes
returns-in_err-bytes g c =
    let o = c.in_err-bytes.ensures in
    show_refused (described_read (type.ByteArray c.args.n)) _ _ _ _ c.from_residual.ensures o.refused (began_none g.S.PartSink.sink_laws _ _)

pub returns : goal.returns
returns g c =
    let G = described_read (type.ByteArray c.args.n) in
    let o = c.in_ok-bytes.ensures.ok in
    show_last g.S.PartSink.sink_laws G _ _ _ [] (shown.Bytes c.in_ok-bytes.bytes) c.add.result (g.S.PartSink.sink_laws.none _) o
    (no_memory G.reads G.reads G.borrow _ _ _ o, inr refl) (began_none g.S.PartSink.sink_laws _ _) c.add.ensures.ok c.add.ensures.err

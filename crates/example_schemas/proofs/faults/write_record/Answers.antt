use Rattle.std.proofs.Common.{rules, ◌≡◌, length}
use Rattle.wincode_io.specs.SliceWriterLaws.{slice_laws}
use Rattle.example_schemas.proofs.Records.{record_unwritten}
use Rattle.example_schemas.proofs.faults.write_record.Goals as goal

pub returns-in_err-make_room-clause-wrote : goal.returns-in_err-make_room-clause-wrote
returns-in_err-make_room-clause-wrote c =
    let src = c.args.src in
    let full : length src.2 ≡ 32 = search rules in
    let d = record_unwritten (src.0, (src.1, src.2)) full slice_laws _ _ c.in_err-make_room.field-0.0 c.in_err-make_room.ensures.err in
    let u = d.0 in
    let p = d.1 in search (rules, u, p)

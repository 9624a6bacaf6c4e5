use Rattle.wincode_base.specs.Pairs.{pair_write}
use Rattle.wincode_write.proofs.Fronts.{pair_in_front}
use Rattle.wincode_write.proofs.schema.tuples.fronts.encode_front_members_4.Goals as goal

pub returns : goal.returns
returns g c =
    let first = c.in_ok-first.ensures in
    let second = c.in_ok-second.ensures in
    let both = pair_in_front g.A.SchemaWrite.writing (pair_write g.B.SchemaWrite.writing (pair_write g.C.SchemaWrite.writing g.D.SchemaWrite.writing))
    (g.A.SchemaWrite.model c.args.a.now) (g.B.SchemaWrite.model c.args.b.now, (g.C.SchemaWrite.model c.args.c.now, g.D.SchemaWrite.model c.args.d.now))
    c.in_ok-first.first c.in_ok-second.second _ c.encode_front.new.dst c.encode_front_members_3.new.dst (first.0, first.1) (second.0, second.1) in
    (both.0, both.1, (first.2, second.2))

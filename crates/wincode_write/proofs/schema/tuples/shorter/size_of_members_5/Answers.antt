use Rattle.wincode_base.specs.Pairs.{pair_write}
use Rattle.wincode_base.specs.JoinedSizes.{pair_sized, pair_unsized}
use Rattle.wincode_write.proofs.schema.tuples.shorter.size_of_members_5.Goals as goal

pub returns-clause-ok : goal.returns-clause-ok
returns-clause-ok g c =
    pair_sized g.A.SchemaWrite.writing (pair_write g.B.SchemaWrite.writing
    (pair_write g.C.SchemaWrite.writing (pair_write g.D.SchemaWrite.writing g.E.SchemaWrite.writing))) (g.A.SchemaWrite.model c.args.a.now)
    (g.B.SchemaWrite.model c.args.b.now, (g.C.SchemaWrite.model c.args.c.now, (g.D.SchemaWrite.model c.args.d.now, g.E.SchemaWrite.model c.args.e.now)))
    _ _ _ c.size_of.ensures.ok c.size_of_members_4.ensures.ok c.joined_size.ensures.ok

pub returns-clause-err : goal.returns-clause-err
returns-clause-err g c =
    pair_unsized g.A.SchemaWrite.writing (pair_write g.B.SchemaWrite.writing
    (pair_write g.C.SchemaWrite.writing (pair_write g.D.SchemaWrite.writing g.E.SchemaWrite.writing))) (g.A.SchemaWrite.model c.args.a.now)
    (g.B.SchemaWrite.model c.args.b.now, (g.C.SchemaWrite.model c.args.c.now, (g.D.SchemaWrite.model c.args.d.now, g.E.SchemaWrite.model c.args.e.now)))
    _ _ _ c.size_of.ensures.ok c.size_of.ensures.err c.size_of_members_4.ensures.ok c.size_of_members_4.ensures.err c.joined_size.ensures.err

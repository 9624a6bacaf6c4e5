use Rattle.wincode_base.specs.Pairs.{pair_write}
use Rattle.wincode_base.specs.JoinedSizes.{pair_sized, pair_unsized}
use Rattle.wincode_write.proofs.schema.tuples.longer.size_of_members_11.Goals as goal

pub returns-clause-ok : goal.returns-clause-ok
returns-clause-ok g c =
    pair_sized g.A.SchemaWrite.writing (pair_write g.B.SchemaWrite.writing
    (pair_write g.C.SchemaWrite.writing (pair_write g.D.SchemaWrite.writing
    (pair_write g.E.SchemaWrite.writing (pair_write g.F.SchemaWrite.writing
    (pair_write g.G.SchemaWrite.writing (pair_write g.H.SchemaWrite.writing
    (pair_write g.I.SchemaWrite.writing (pair_write g.J.SchemaWrite.writing g.K.SchemaWrite.writing))))))))) (g.A.SchemaWrite.model c.args.a.now) (
      g.B.SchemaWrite.model c.args.b.now,
      (
        g.C.SchemaWrite.model c.args.c.now,
        (
          g.D.SchemaWrite.model c.args.d.now,
          (
            g.E.SchemaWrite.model c.args.e.now,
            (
              g.F.SchemaWrite.model c.args.f.now,
              (
                g.G.SchemaWrite.model c.args.g.now,
                (
                  g.H.SchemaWrite.model c.args.h.now,
                  (
                    g.I.SchemaWrite.model c.args.i.now,
                    (g.J.SchemaWrite.model c.args.j.now, g.K.SchemaWrite.model c.args.k.now),
                  ),
                ),
              ),
            ),
          ),
        ),
      ),
    )
    _ _ _ c.size_of.ensures.ok c.size_of_members_10.ensures.ok c.joined_size.ensures.ok

pub returns-clause-err : goal.returns-clause-err
returns-clause-err g c =
    pair_unsized g.A.SchemaWrite.writing (pair_write g.B.SchemaWrite.writing
    (pair_write g.C.SchemaWrite.writing (pair_write g.D.SchemaWrite.writing
    (pair_write g.E.SchemaWrite.writing (pair_write g.F.SchemaWrite.writing
    (pair_write g.G.SchemaWrite.writing (pair_write g.H.SchemaWrite.writing
    (pair_write g.I.SchemaWrite.writing (pair_write g.J.SchemaWrite.writing g.K.SchemaWrite.writing))))))))) (g.A.SchemaWrite.model c.args.a.now) (
      g.B.SchemaWrite.model c.args.b.now,
      (
        g.C.SchemaWrite.model c.args.c.now,
        (
          g.D.SchemaWrite.model c.args.d.now,
          (
            g.E.SchemaWrite.model c.args.e.now,
            (
              g.F.SchemaWrite.model c.args.f.now,
              (
                g.G.SchemaWrite.model c.args.g.now,
                (
                  g.H.SchemaWrite.model c.args.h.now,
                  (
                    g.I.SchemaWrite.model c.args.i.now,
                    (g.J.SchemaWrite.model c.args.j.now, g.K.SchemaWrite.model c.args.k.now),
                  ),
                ),
              ),
            ),
          ),
        ),
      ),
    )
    _ _ _ c.size_of.ensures.ok c.size_of.ensures.err c.size_of_members_10.ensures.ok c.size_of_members_10.ensures.err c.joined_size.ensures.err

use Rattle.wincode_base.specs.Pairs.{pair_write}
use Rattle.wincode_write.proofs.Fronts.{pair_in_front}
use Rattle.wincode_write.proofs.schema.tuples.fronts.encode_front_members_12.Goals as goal

pub returns : goal.returns
returns g c =
    let first = c.in_ok-first.ensures in
    let second = c.in_ok-second.ensures in
    let both = pair_in_front g.A.SchemaWrite.writing (pair_write g.B.SchemaWrite.writing
    (pair_write g.C.SchemaWrite.writing (pair_write g.D.SchemaWrite.writing
    (pair_write g.E.SchemaWrite.writing (pair_write g.F.SchemaWrite.writing
    (pair_write g.G.SchemaWrite.writing (pair_write g.H.SchemaWrite.writing
    (pair_write g.I.SchemaWrite.writing (pair_write g.J.SchemaWrite.writing (pair_write g.K.SchemaWrite.writing g.M.SchemaWrite.writing))))))))))
    (g.A.SchemaWrite.model c.args.a.now) (
      g.B.SchemaWrite.model c.args.b.now,
      (
        g.C.SchemaWrite.model c.args.c.now,
        (
          g.D.SchemaWrite.model c.args.d.now,
          (
            g.E.SchemaWrite.model c.args.e.now,
            (
              g.F.SchemaWrite.model c.args.f.now,
              (
                g.G.SchemaWrite.model c.args.g.now,
                (
                  g.H.SchemaWrite.model c.args.h.now,
                  (
                    g.I.SchemaWrite.model c.args.i.now,
                    (
                      g.J.SchemaWrite.model c.args.j.now,
                      (g.K.SchemaWrite.model c.args.k.now, g.M.SchemaWrite.model c.args.m.now),
                    ),
                  ),
                ),
              ),
            ),
          ),
        ),
      ),
    )
    c.in_ok-first.first c.in_ok-second.second _ c.encode_front.new.dst c.encode_front_members_11.new.dst (first.0, first.1) (second.0, second.1) in
    (both.0, both.1, (first.2, second.2))

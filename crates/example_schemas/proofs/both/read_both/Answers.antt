use Rattle.std.proofs.lemmas.Result.{IfOk-weaker}
use Rattle.example_schemas.proofs.Boths.{both_gave}
use Rattle.example_schemas.proofs.both.read_both.Goals as goal

pub returns-clause-agree : goal.returns-clause-agree
returns-clause-agree g c =
    let T = g.T.SchemaRead in
    let one = g.met.T.SchemaRead.read_laws.one_front in
    IfOk-weaker c.deserialize_from-first.result _ _ (λ v p.
    IfOk-weaker c.deserialize_from-second.result _ _ (λ w q. both_gave T.model T.reading.reads one _ _ _ _ v w c.requires.is_known.0 c.requires.is_known.1
    c.requires.same p q)
    c.deserialize_from-second.ensures.ok) c.deserialize_from-first.ensures.ok

use Rattle.wincode_write.proofs.Fronts.{pair_in_front}
use Rattle.wincode_write.proofs.schema.tuples.Members2SchemaWrite.encode_front.Goals as goal

pub returns : goal.returns
returns g c =
    let A = g.A.SchemaWrite in
    let B = g.B.SchemaWrite in
    let first = c.in_ok-first.ensures in
    let second = c.in_ok-second.ensures in
    let both = pair_in_front A.writing B.writing (A.model c.args.src.now.0) (B.model c.args.src.now.1)
    c.in_ok-first.first c.in_ok-second.second _ c.encode_front.new.dst c.encode_front-2.new.dst (first.0, first.1) (second.0, second.1) in
    (both.0, both.1, (first.2, second.2))

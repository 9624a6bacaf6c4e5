use Rattle.wincode_read.proofs.schema.tuples.longer.decode_11.Goals as goal

pub returns-in-Some : goal.returns-in-Some
returns-in-Some g c = λ done. let first = c.in-Some.ensures in (first.0, c.in-Some.back.now, first.1, c.decode_10.ensures done, first.2)

use Rattle.sample_keys.proofs.kinds.schemas.KindEnumShape.write_part.Goals as goal

pub returns-in-Placed : goal.returns-in-Placed
returns-in-Placed g c = rw c.in-Placed.is c.write_members_3.ensures

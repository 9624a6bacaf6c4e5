use Rattle.sample_keys.proofs.kinds.schemas.KindEnumShape.encode_part.Goals as goal

pub returns-in-Placed : goal.returns-in-Placed
returns-in-Placed c = rw c.in-Placed.is c.encode_front_members_3.ensures

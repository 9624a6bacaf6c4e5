use Rattle.sample_types.proofs.shapes.schemas.FoundEnumShape.encode_part.Goals as goal

pub returns-in-Many : goal.returns-in-Many
returns-in-Many g c = rw c.in-Many.is c.encode_front_members_2.ensures

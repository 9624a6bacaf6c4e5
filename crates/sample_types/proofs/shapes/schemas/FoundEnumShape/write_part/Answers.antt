use Rattle.sample_types.proofs.shapes.schemas.FoundEnumShape.write_part.Goals as goal

pub returns-in-Many : goal.returns-in-Many
returns-in-Many g c = rw c.in-Many.is c.write_members_2.ensures

use Rattle.example_schemas.proofs.event.schemas.EventU32EnumShape.write_part.Goals as goal

pub returns-in-Named : goal.returns-in-Named
returns-in-Named g c = rw c.in-Named.is c.write_members_2.ensures

pub returns-in-Blob : goal.returns-in-Blob
returns-in-Blob g c = rw c.in-Blob.is c.write_members_2-in-Blob.ensures

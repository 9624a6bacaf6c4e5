use Rattle.example_schemas.proofs.event.schemas.EventU8EnumShape.encode_part.Goals as goal

pub returns-in-Named : goal.returns-in-Named
returns-in-Named c = rw c.in-Named.is c.encode_front_members_2.ensures

pub returns-in-Blob : goal.returns-in-Blob
returns-in-Blob c = rw c.in-Blob.is c.encode_front_members_2-in-Blob.ensures

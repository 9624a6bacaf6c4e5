use Rattle.sample_types.proofs.signal.schemas.SignalEnumShape.encode_part.Goals as goal

pub returns-in-Moved : goal.returns-in-Moved
returns-in-Moved c = rw c.in-Moved.is c.encode_front_members_2.ensures

pub returns-in-Named : goal.returns-in-Named
returns-in-Named c = rw c.in-Named.is c.encode_front_members_3.ensures

use Rattle.sample_types.proofs.signal.schemas.SignalEnumShape.write_part.Goals as goal

pub returns-in-Moved : goal.returns-in-Moved
returns-in-Moved g c = rw c.in-Moved.is c.write_members_2.ensures

pub returns-in-Named : goal.returns-in-Named
returns-in-Named g c = rw c.in-Named.is c.write_members_3.ensures

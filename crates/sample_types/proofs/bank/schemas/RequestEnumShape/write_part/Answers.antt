use Rattle.sample_types.proofs.bank.schemas.RequestEnumShape.write_part.Goals as goal

pub returns-in-Open : goal.returns-in-Open
returns-in-Open g c = rw c.in-Open.is c.write_members_3.ensures

pub returns-in-Sealed : goal.returns-in-Sealed
returns-in-Sealed g c = rw c.in-Sealed.is c.write_members_2.ensures

pub returns-in-Paid : goal.returns-in-Paid
returns-in-Paid g c = rw c.in-Paid.is c.write_members_2-in-Paid.ensures

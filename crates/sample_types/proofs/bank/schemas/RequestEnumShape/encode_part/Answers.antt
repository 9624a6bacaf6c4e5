use Rattle.sample_types.proofs.bank.schemas.RequestEnumShape.encode_part.Goals as goal

pub returns-in-Open : goal.returns-in-Open
returns-in-Open c = rw c.in-Open.is c.encode_front_members_3.ensures

pub returns-in-Sealed : goal.returns-in-Sealed
returns-in-Sealed c = rw c.in-Sealed.is c.encode_front_members_2.ensures

pub returns-in-Paid : goal.returns-in-Paid
returns-in-Paid c = rw c.in-Paid.is c.encode_front_members_2-in-Paid.ensures

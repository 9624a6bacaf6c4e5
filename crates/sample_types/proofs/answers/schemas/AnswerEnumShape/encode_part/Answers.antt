use Rattle.sample_types.proofs.answers.schemas.AnswerEnumShape.encode_part.Goals as goal

pub returns-in-Late : goal.returns-in-Late
returns-in-Late g c = rw c.in-Late.is c.encode_front_members_2.ensures

pub returns-in-Moved : goal.returns-in-Moved
returns-in-Moved g c = rw c.in-Moved.is c.encode_front_members_2-in-Moved.ensures

use Rattle.sample_types.proofs.answers.schemas.AnswerEnumShape.write_part.Goals as goal

pub returns-in-Late : goal.returns-in-Late
returns-in-Late g c = rw c.in-Late.is c.write_members_2.ensures

pub returns-in-Moved : goal.returns-in-Moved
returns-in-Moved g c = rw c.in-Moved.is c.write_members_2-in-Moved.ensures

use Rattle.wincode_io.proofs.Asked.{came_stays, came_some}
use Rattle.wincode_io.proofs.stream_reader.StreamReader.more.Goals as goal

pub returns-in-Ok-eq0-clause-ok : goal.returns-in-Ok-eq0-clause-ok
returns-in-Ok-eq0-clause-ok g c = rw (← c.self.view_is) (came_stays _ _ _ _ _ _ _ c.in-Ok-eq0.ensures.ok)

pub returns-in-Ok-clause-ok : goal.returns-in-Ok-clause-ok
returns-in-Ok-clause-ok g c = rw (← c.self.view_is) (came_stays _ _ _ _ _ _ _ c.in-Ok.ensures.ok)

pub returns-in-Ok-clause-came : goal.returns-in-Ok-clause-came
returns-in-Ok-clause-came g c = λ came. rw (← c.self.view_is) (came_some c.in-Ok.ensures.ok c.in-Ok.field-0-test.1)

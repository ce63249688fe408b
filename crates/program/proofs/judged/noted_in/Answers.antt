use Rattle.program.proofs.judged.noted_in.Goals as goal

pub returns-in-Lines : goal.returns-in-Lines
returns-in-Lines c = rw c.in-Lines.is c.noted_value.ensures

pub returns-in-Json : goal.returns-in-Json
returns-in-Json c = rw c.in-Json.is c.noted_object.ensures

use Rattle.program.proofs.judged.answer_about.Goals as goal

pub returns-in-Check : goal.returns-in-Check
returns-in-Check c = rw c.in-Check.is c.checked.ensures

pub returns-in_ok-shown-in-Show : goal.returns-in_ok-shown-in-Show
returns-in_ok-shown-in-Show c = rw c.in-Show.is c.in_ok-shown-in-Show.ensures.0

pub returns-in-Note : goal.returns-in-Note
returns-in-Note c = rw c.in-Note.is c.noted_in.ensures

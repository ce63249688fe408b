use Rattle.program.proofs.lines.tell_kept.Goals as goal

pub returns-in-Ok-clause-answer : goal.returns-in-Ok-clause-answer
returns-in-Ok-clause-answer g c = rw c.as_slice.ensures.value at c.in-Ok.ensures.said

pub returns-in-Err-clause-untold : goal.returns-in-Err-clause-untold
returns-in-Err-clause-untold g c = rw c.as_slice.ensures.value at c.in-Err.ensures.said

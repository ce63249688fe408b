use Rattle.program.proofs.replies.fault_noted.Goals as goal

pub returns-clause-answer : goal.returns-clause-answer
returns-clause-answer c = record { status = c.faulted-answer.ensures.status; said = c.faulted-answer.ensures.said }

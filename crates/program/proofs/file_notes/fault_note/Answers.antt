use Rattle.program.proofs.file_notes.fault_note.Goals as goal

pub returns-in-End-clause-line : goal.returns-in-End-clause-line
returns-in-End-clause-line c = rw c.in-End.is c.shown_at-in-End.ensures

pub returns-in-Falls-clause-line : goal.returns-in-Falls-clause-line
returns-in-Falls-clause-line c = rw c.in-Falls.is c.shown_at-in-Falls.ensures

use Rattle.program.proofs.file_notes.trace_note.Goals as goal

pub returns-in-Word-clause-line : goal.returns-in-Word-clause-line
returns-in-Word-clause-line c = rw c.in-Word.is c.shown_at.ensures

pub returns-in-Hex-clause-line : goal.returns-in-Hex-clause-line
returns-in-Hex-clause-line c = rw c.in-Hex.is c.shown_at-in-Hex.ensures

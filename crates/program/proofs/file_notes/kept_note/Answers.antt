use Rattle.program.proofs.file_notes.kept_note.Goals as goal

pub returns-in-Word : goal.returns-in-Word
returns-in-Word c = rw c.in-Word.is c.kept_line.ensures

pub returns-in-Hex : goal.returns-in-Hex
returns-in-Hex c = rw c.in-Hex.is c.kept_line-in-Hex.ensures

pub returns-in-Falls : goal.returns-in-Falls
returns-in-Falls c = rw c.in-Falls.is c.kept_line-in-Falls.ensures

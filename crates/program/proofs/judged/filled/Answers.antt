use Rattle.program.proofs.judged.filled.Goals as goal

pub returns : goal.returns
returns c = (c.in_ok-answer.ensures.answer, c.fill_note-explanation.ensures)

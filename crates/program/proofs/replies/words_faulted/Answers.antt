use Rattle.command_line.specs.Form.{texts}
use Rattle.program_words.specs.declared.fault.Fault.TheVariants.{Hex, Words}
use Rattle.explainer.specs.Words.{IsWordsNote}
use Rattle.program.proofs.Explaining.{is-faulted}
use Rattle.program.proofs.replies.words_faulted.Goals as goal

pub returns-in-Words-clause-answer : goal.returns-in-Words-clause-answer
returns-in-Words-clause-answer c = rw c.in-Words.is (is-faulted Words (IsWordsNote (texts c.args.words.now))
    c.words_note.result c.fault_noted.result c.fault_noted.ensures.answer c.fault_noted.ensures.explanation
    c.words_note.ensures)

pub returns-in-Hex-clause-answer : goal.returns-in-Hex-clause-answer
returns-in-Hex-clause-answer c = rw c.in-Hex.is (is-faulted Hex (IsWordsNote (texts c.args.words.now))
    c.words_note-in-Hex.result c.fault_noted-in-Hex.result c.fault_noted-in-Hex.ensures.answer
    c.fault_noted-in-Hex.ensures.explanation c.words_note-in-Hex.ensures)

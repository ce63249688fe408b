use Rattle.program.proofs.Simulations.{inside, past}
use Rattle.program.proofs.simulation.file_with_note.Goals as goal

pub exchange_note-explanation-requires-clause-past : goal.exchange_note-explanation-requires-clause-past
exchange_note-explanation-requires-clause-past c =
    past c.args.exchange.now c.in_ok-answer.answer.said c.in_ok-answer.answer.status c.in_ok-answer.ensures

pub exchange_note-explanation-requires-clause-inside : goal.exchange_note-explanation-requires-clause-inside
exchange_note-explanation-requires-clause-inside c =
    inside c.args.exchange.now c.in_ok-answer.answer.said c.in_ok-answer.answer.status c.in_ok-answer.ensures

use Rattle.session_core.proofs.Ends.{some-count, none-count}
use Rattle.session_core.proofs.terminal.answer_len.Goals as goal

pub returns-in-Some : goal.returns-in-Some
returns-in-Some c = λ command. some-count c.in-Some.octets _ (c.in-Some.ensures command)

pub returns-in-None : goal.returns-in-None
returns-in-None c = λ command. none-count _ (c.in-None.ensures command)

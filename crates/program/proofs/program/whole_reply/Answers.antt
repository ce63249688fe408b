use Rattle.command_line.specs.Form.{texts}
use Rattle.program.proofs.InJson.{right-line}
use Rattle.program.proofs.program.whole_reply.Goals as goal

pub returns-in-Err-clause-answer : goal.returns-in-Err-clause-answer
returns-in-Err-clause-answer g c = right-line (texts c.args.words.now) _ c.in-Err.fault
    c.faulted.result c.alone.result c.in-Err.ensures.answer c.faulted.ensures.said
    c.faulted.ensures.status c.alone.ensures.answer c.alone.ensures.said

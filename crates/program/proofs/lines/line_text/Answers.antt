use Rattle.program.proofs.LineNoted.{line-said}
use Rattle.program.proofs.lines.line_text.Goals as goal

pub returns : goal.returns
returns c = line-said c.args.line_task c.args.line.now c.in_ok-said_text.field-0 c.in_ok-answer.field-0.answer
    c.in_ok-answer.field-0.explanation c.in_ok-explanation.explanation c.in_ok-explanation.was c.in_ok-answer.ensures.0
    c.in_ok-answer.ensures.1
    c.in_ok-said_text.ensures

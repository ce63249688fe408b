use Rattle.std.proofs.lemmas.Result.{err_from_is_err_and}
use Rattle.command_line.specs.Form.{texts}
use Rattle.program.specs.Calls.{calls_of}
use Rattle.program.proofs.InJson.{answer-lines, fault-lines, wanting-lines}
use Rattle.program.proofs.program.answer_in_lines.Goals as goal

pub returns-in_ok-in_lines-in-Ok-clause-answer : goal.returns-in_ok-in_lines-in-Ok-clause-answer
returns-in_ok-in_lines-in-Ok-clause-answer g c = answer-lines (texts c.args.words.now)
    (calls_of g.R.Source.remaining g.R.Source.failures c.args.reader.now c.reply.new.reader)
    c.in-Ok.made c.in_ok-in_lines-in-Ok.field-0 c.in-Ok.ensures.answer c.in_ok-in_lines-in-Ok.ensures.text
    c.in_ok-in_lines-in-Ok.ensures.explanation c.in_ok-in_lines-in-Ok.ensures.status

pub returns-in_err-in_lines-in-Ok-clause-answer : goal.returns-in_err-in_lines-in-Ok-clause-answer
returns-in_err-in_lines-in-Ok-clause-answer g c =
    let fault = err_from_is_err_and c.from_residual.result c.from_residual.ensures.1 in
    rw fault.1 (wanting-lines (texts c.args.words.now)
    (calls_of g.R.Source.remaining g.R.Source.failures c.args.reader.now c.reply.new.reader)
    fault.0 fault.2 c.in-Ok.ensures.unfailed)

pub returns-in-Err-clause-answer : goal.returns-in-Err-clause-answer
returns-in-Err-clause-answer g c = fault-lines (texts c.args.words.now)
    (calls_of g.R.Source.remaining g.R.Source.failures c.args.reader.now c.reply.new.reader)
    c.in-Err.fault c.in-Err.ensures.answer

use Rattle.program.proofs.LineNoted.{line-fault, long-line, told-fault, told-octets}
use Rattle.program.proofs.line_task.line_answer.Goals as goal

pub returns-then-line-gt-LARGEST_FILE : goal.returns-then-line-gt-LARGEST_FILE
returns-then-line-gt-LARGEST_FILE c = line-fault c.args.line_task c.args.line.now _ _ c.fault_answer.result
    (long-line c.args.line.now c.if-line-gt-LARGEST_FILE.true) c.fault_answer.ensures.answer

pub returns-in-Ok : goal.returns-in-Ok
returns-in-Ok c = told-octets c.args.line_task c.args.line.now c.in-Ok.octets c.answer_about.result
    c.if-line-gt-LARGEST_FILE.false c.in-Ok.ensures (rw c.get.ensures at c.answer_about.ensures)

pub returns-in-Err : goal.returns-in-Err
returns-in-Err c = told-fault c.args.line_task c.args.line.now c.in-Err.fault c.fault_answer-in-Err.result
    c.if-line-gt-LARGEST_FILE.false c.in-Err.ensures c.fault_answer-in-Err.ensures.other
    c.fault_answer-in-Err.ensures.answer

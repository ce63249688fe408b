use Rattle.std.proofs.Common.{Ok, Result}
use Rattle.program_words.specs.declared.fault.Fault.{Fault}
use Rattle.program.specs.declared.judged.WithExplanation.{WithExplanation}
use Rattle.program.proofs.Judgments.{trace-replied, used-noted}
use Rattle.program.proofs.judging.judged.Goals as goal

abbrev made-as : WithExplanation → Result WithExplanation Fault
made-as made = Ok made

pub returns-in_ok-lines_told-in-Ok-read_lines-clause-answer :
    goal.returns-in_ok-lines_told-in-Ok-read_lines-clause-answer
returns-in_ok-lines_told-in-Ok-read_lines-clause-answer g c = λ words.
    let had = rw c.scope_of.ensures at c.in-Ok-read_lines.ensures in
    let made = c.in_ok-lines_told-in-Ok-read_lines.field-0 in
    trace-replied words c.args.atr.now c.args.judging _ had.0 made had.1
    (used-noted c.args.atr.now c.in-Ok.offer c.args.judging had.0 (made-as made) c.in-Ok.ensures.found
    (c.in_ok-lines_told-in-Ok-read_lines.ensures c.in-Ok.offer had.0 had.2))

pub returns-in-Err-read_lines-clause-answer : goal.returns-in-Err-read_lines-clause-answer
returns-in-Err-read_lines-clause-answer g c = λ words.
    c.unread.ensures.answer words c.args.atr.now c.args.judging _ c.in-Err-read_lines.ensures

pub returns-in_ok-unusable_noted-in-Ok-read_past-clause-answer :
    goal.returns-in_ok-unusable_noted-in-Ok-read_past-clause-answer
returns-in_ok-unusable_noted-in-Ok-read_past-clause-answer g c = λ words.
    let had = c.in-Ok-read_past.ensures in
    let made = c.in_ok-unusable_noted-in-Ok-read_past.field-0 in
    trace-replied words c.args.atr.now c.args.judging _ had.0 made had.1
    (c.in_ok-unusable_noted-in-Ok-read_past.ensures c.in-Err.ensures.refused c.args.judging had.0)

pub returns-in-Err-read_past-clause-answer : goal.returns-in-Err-read_past-clause-answer
returns-in-Err-read_past-clause-answer g c = λ words.
    c.unread-in-Err-read_past.ensures.answer words c.args.atr.now c.args.judging _ c.in-Err-read_past.ensures

pub returns-in_ok-lines_told-in-Ok-read_lines-clause-unfailed :
    goal.returns-in_ok-lines_told-in-Ok-read_lines-clause-unfailed
returns-in_ok-lines_told-in-Ok-read_lines-clause-unfailed g c = c.in-Ok-read_lines.ensures.1.count

pub returns-in-Err-read_lines-clause-unfailed : goal.returns-in-Err-read_lines-clause-unfailed
returns-in-Err-read_lines-clause-unfailed g c = c.unread.ensures.unfailed _ c.in-Err-read_lines.ensures

pub returns-in_ok-unusable_noted-in-Ok-read_past-clause-unfailed :
    goal.returns-in_ok-unusable_noted-in-Ok-read_past-clause-unfailed
returns-in_ok-unusable_noted-in-Ok-read_past-clause-unfailed g c = c.in-Ok-read_past.ensures.1.count

pub returns-in-Err-read_past-clause-unfailed : goal.returns-in-Err-read_past-clause-unfailed
returns-in-Err-read_past-clause-unfailed g c =
    c.unread-in-Err-read_past.ensures.unfailed _ c.in-Err-read_past.ensures

use Rattle.std.proofs.Common.{◌∙◌, ap, sym}
use Rattle.command_line.specs.Form.{texts}
use Rattle.program.specs.LineNotes.{line_task_of}
use Rattle.program.proofs.Asking.{lines-asked, no-lines, read_as, request-read, same-task}
use Rattle.program.proofs.InJson.{no-words-asked}
use Rattle.program.proofs.program.run.Goals as goal

pub returns-in-Ok-Lines-clause-written : goal.returns-in-Ok-Lines-clause-written
returns-in-Ok-Lines-clause-written g c =
    λ none. absurd (none c.in-Ok-Lines.task
    (lines-asked (texts c.args.words.items) c.read.result c.in-Ok-Lines.task
    (c.in-Ok-Lines.is ∙ ap read_as c.in-Ok-Lines.field-0-is)
    (rw c.as_slice-words.ensures.value at c.read.ensures.read)))

pub returns-in-Ok-Lines-clause-lines : goal.returns-in-Ok-Lines-clause-lines
returns-in-Ok-Lines-clause-lines g c = λ task ask.
    rw (sym (same-task (texts c.args.words.items) c.read.result c.in-Ok-Lines.task task
    (c.in-Ok-Lines.is ∙ ap read_as c.in-Ok-Lines.field-0-is)
    (rw c.as_slice-words.ensures.value at c.read.ensures.read) ask))
    (rw (rw c.as_slice-words.ensures.value at c.asks_to_explain-explains.ensures) at c.tell_lines.ensures)

pub returns-in-Ok-Lines-clause-unread : goal.returns-in-Ok-Lines-clause-unread
returns-in-Ok-Lines-clause-unread g c =
    λ none. absurd (none c.in-Ok-Lines.task
    (lines-asked (texts c.args.words.items) c.read.result c.in-Ok-Lines.task
    (c.in-Ok-Lines.is ∙ ap read_as c.in-Ok-Lines.field-0-is)
    (rw c.as_slice-words.ensures.value at c.read.ensures.read)))

pub returns-in-Ok-Lines-clause-few : goal.returns-in-Ok-Lines-clause-few
returns-in-Ok-Lines-clause-few g c =
    λ none _. absurd (none c.in-Ok-Lines.task
    (lines-asked (texts c.args.words.items) c.read.result c.in-Ok-Lines.task
    (c.in-Ok-Lines.is ∙ ap read_as c.in-Ok-Lines.field-0-is)
    (rw c.as_slice-words.ensures.value at c.read.ensures.read)))

pub returns-in-Err-Memory-clause-written : goal.returns-in-Err-Memory-clause-written
returns-in-Err-Memory-clause-written g c =
    λ _. no-words-asked (g.R.Source.remaining c.args.reader.now) (g.R.Source.failures c.args.reader.now) _ _
    c.report.ensures (texts c.args.words.items)

pub returns-in-Err-Memory-clause-lines : goal.returns-in-Err-Memory-clause-lines
returns-in-Err-Memory-clause-lines g c = λ task _.
    no-lines (g.R.Source.remaining c.args.reader.now) (g.R.Source.failures c.args.reader.now) _ _ c.report.ensures
    (line_task_of (texts c.args.words.items) task)

pub one_text-requires : goal.one_text-requires
one_text-requires g c =
    request-read _ _ c.in-Ok-Once.request (c.in-Ok-Once.is ∙ ap read_as c.in-Ok-Once.field-0-is)
    c.read.ensures.read

use Rattle.std.proofs.Common.{◌∙◌, sym}
use Rattle.command_line.specs.Form.{texts}
use Rattle.program.proofs.InJson.{json-asked, lines-asked}
use Rattle.program.proofs.program.answer_as_asked.Goals as goal
use Rattle.program.specs.Calls.{calls_of}

pub returns-in-Json-clause-answer : goal.returns-in-Json-clause-answer
returns-in-Json-clause-answer g c = json-asked (texts c.args.words.now)
    (calls_of g.R.Source.remaining g.R.Source.failures c.args.reader.now c.answer_in_json.new.reader)
    c.answer_in_json.result (sym c.layout_of.ensures ∙ c.in-Json.is) c.answer_in_json.ensures.answer

pub returns-in-Lines-clause-answer : goal.returns-in-Lines-clause-answer
returns-in-Lines-clause-answer g c = lines-asked (texts c.args.words.now)
    (calls_of g.R.Source.remaining g.R.Source.failures c.args.reader.now c.answer_in_lines.new.reader)
    c.answer_in_lines.result (sym c.layout_of.ensures ∙ c.in-Lines.is) c.answer_in_lines.ensures.answer

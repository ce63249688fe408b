use Rattle.std.proofs.Common.{rules}
use Rattle.program.proofs.ByLine.{all-ended, answered-last, if-ok, no-octets}
use Rattle.program.proofs.lines.AnsweredLines.last.Goals as goal

pub returns-then-is_empty-clause-answer : goal.returns-then-is_empty-clause-answer
returns-then-is_empty-clause-answer c =
    let none = no-octets c.args.self.now.line.items (search rules) in
    (λ read written h. all-ended c.args.self.now.line_task read written c.args.self.now.line.items
    c.args.self.now.text.items c.args.self.now.status none h)

pub returns-clause-answer : goal.returns-clause-answer
returns-clause-answer c = if-ok c.answer.result
    (λ told. answered-last c.args.self.now.line_task c.args.self.now.line.items c.args.self.now.text.items
    c.answer.new.self.text.items c.args.self.now.status c.answer.new.self.status (λ none. search rules) told.0 told.1
    told.2 told.3 told.4) c.answer.ensures.answer

use Rattle.std.proofs.Common.{rules}
use Rattle.program.proofs.ByLine.{answered-said, octet-kept, octet-left, if-both-ok}
use Rattle.program.proofs.lines.AnsweredLines.take.Goals as goal

pub returns-then-octet-eq10-clause-said : goal.returns-then-octet-eq10-clause-said
returns-then-octet-eq10-clause-said c =
    if-both-ok c.answer.result (λ told none.
    rw none (answered-said c.args.self.now.line_task c.args.self.now.line.items c.args.self.now.text.items
    c.answer.new.self.text.items c.args.self.now.status c.answer.new.self.status c.args.octet c.if-octet-eq10.true
    told.0 told.1 told.2 told.3 told.4)) c.answer.ensures.answer c.answer.ensures.line

pub returns-in_ok-push-clause-said : goal.returns-in_ok-push-clause-said
returns-in_ok-push-clause-said c read written h =
    rw c.in_ok-push.ensures.items (octet-kept c.args.self.now.line_task read written c.args.self.now.line.items
    c.args.self.now.text.items c.args.self.now.status c.args.octet c.if-octet-eq10.false (search rules) h)

pub returns-else-len-le-LARGEST_FILE-clause-said : goal.returns-else-len-le-LARGEST_FILE-clause-said
returns-else-len-le-LARGEST_FILE-clause-said c read written h =
    octet-left c.args.self.now.line_task read written c.args.self.now.line.items c.args.self.now.text.items
    c.args.self.now.status c.args.octet c.if-octet-eq10.false (search rules) h

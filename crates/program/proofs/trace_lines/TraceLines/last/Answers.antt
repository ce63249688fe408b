use Rattle.std.proofs.Common.{◌∙◌, sym}
use Rattle.program.proofs.ByLine.{if-ok}
use Rattle.program.proofs.TraceLines.{after-last, no-fault, passed-last}
use Rattle.program.proofs.trace_lines.TraceLines.last.Goals as goal

pub returns-then-is_some : goal.returns-then-is_some
returns-then-is_some c = λ offered scope read h.
    passed-last offered scope c.args.self.now.standing c.args.self.now.line.items c.args.self.now.fault
    (sym c.is_some.ensures ∙ c.if-is_some.true) read h

pub returns : goal.returns
returns c = if-ok c.end.result (λ takes offered scope read h.
    after-last offered scope c.args.self.now.standing c.end.new.self.standing c.args.self.now.line.items
    c.end.new.self.line.items c.args.self.now.fault c.end.new.self.fault
    (no-fault c.args.self.now.fault (sym c.is_some.ensures ∙ c.if-is_some.false)) takes read h) c.end.ensures.taken

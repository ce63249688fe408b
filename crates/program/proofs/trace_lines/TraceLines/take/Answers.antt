use Rattle.std.proofs.Common.{◌∙◌, ◌∷◌, [], sym}
use Rattle.program.proofs.ByLine.{if-ok}
use Rattle.program.proofs.TraceLines.{after-line, after-octet, no-fault, passed-over}
use Rattle.program.proofs.trace_lines.TraceLines.take.Goals as goal

pub returns-then-is_some-clause-come : goal.returns-then-is_some-clause-come
returns-then-is_some-clause-come c = λ offered scope read h.
    passed-over offered scope c.args.self.now.standing c.args.self.now.line.items c.args.self.now.fault
    (sym c.is_some.ensures ∙ c.if-is_some.true) read (c.args.octet ∷ []) h

pub returns-then-octet-eq10-clause-come : goal.returns-then-octet-eq10-clause-come
returns-then-octet-eq10-clause-come c = if-ok c.end.result (λ takes offered scope read h.
    after-line offered scope c.args.self.now.standing c.end.new.self.standing c.args.self.now.line.items
    c.end.new.self.line.items c.args.self.now.fault c.end.new.self.fault c.args.octet
    (no-fault c.args.self.now.fault (sym c.is_some.ensures ∙ c.if-is_some.false)) c.if-octet-eq10.true takes read h)
    c.end.ensures.taken

pub returns-clause-come : goal.returns-clause-come
returns-clause-come c = λ offered scope read h.
    rw c.in_ok-push.ensures.items (after-octet offered scope c.args.self.now.standing c.args.self.now.line.items
    c.args.self.now.fault c.args.octet
    (no-fault c.args.self.now.fault (sym c.is_some.ensures ∙ c.if-is_some.false)) c.if-octet-eq10.false read h)

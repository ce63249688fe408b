use Rattle.program.proofs.ByLine.{begun-within, if-err}
use Rattle.program.proofs.lines.AnsweredLines.feed.Goals as goal

pub returns-in_err-take-clause-begun : goal.returns-in_err-take-clause-begun
returns-in_err-take-clause-begun c =
    if-err c.from_residual.result (λ read written h.
    rw c.in_err-take.ensures.kept (begun-within c.args.self.now.line_task read written c.args.piece.now
    c.loop-octet.octet-index c.loop-octet.self.line.items c.loop-octet.self.text.items c.loop-octet.self.status
    (c.loop-octet.invariant.said read written h)))

use Rattle.line_core.proofs.Rounds.{Serving}
use Rattle.line_core.proofs.serving.serve.Given as goal

abbrev pub invariant-loop-left : goal.invariant-loop-left
invariant-loop-left g l = Serving (g.L.CardLine.said l.fn.line) (g.L.CardLine.said l.line) (g.H.Host.served l.fn.host)
    (g.H.Host.served l.host) l.most_blocks l.left l.fn.card l.card

abbrev pub decreases-loop-left : goal.decreases-loop-left
decreases-loop-left g l = l.left

use Rattle.exchange_core.proofs.Calls.{card-called}
use Rattle.exchange_core.proofs.end.CardReplayed.hears.Goals as goal

pub returns-in-Whole-None : goal.returns-in-Whole-None
returns-in-Whole-None c =
    rw (c.in-FromTerminal-default.is-0, c.in-Whole-None.is-0, c.in-Whole-None.is-1, ← c.get.ensures)
    (card-called _ _ c.args.line.now _ _ c.received.ensures.turn c.received.ensures.state)

pub returns-in-Changed-None : goal.returns-in-Changed-None
returns-in-Changed-None c =
    rw (c.in-FromTerminal-default.is-0, c.in-Changed-None.is-0, c.in-Changed-None.is-1, ← c.get-in-Changed-None.ensures)
    (card-called _ _ c.args.line.now _ _ c.received-in-Changed-None.ensures.turn
    c.received-in-Changed-None.ensures.state)

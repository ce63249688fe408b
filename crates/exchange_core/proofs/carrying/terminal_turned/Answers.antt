use Rattle.exchange_core.proofs.Turning.{turns}
use Rattle.exchange_core.proofs.carrying.terminal_turned.Goals as goal

pub returns-in-Ok-clause-turn : goal.returns-in-Ok-clause-turn
returns-in-Ok-clause-turn c = turns _ _ _ _ (let e = c.in-Ok.is in rw e at c.terminal_called.ensures.turn)
    c.terminal_called.ensures.state

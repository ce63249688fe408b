use Rattle.std.proofs.Common.{Ok}
use Rattle.line_core.proofs.Ready.{ready}
use Rattle.line_core.proofs.exchanging.resume.Goals as goal

pub returns : goal.returns
returns g c = rw c.quiet_into.ensures.wrote.state at
    (c.run.ensures _ (ready _ _ _ (Ok c.in_ok-first.first) c.in_ok-first.ensures.wrote.turn))

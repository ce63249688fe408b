use Rattle.std.proofs.Common.{None, true, arith}
use Rattle.std.proofs.lemmas.Grind.{common_steps}
use Rattle.chain_core.specs.Lent.{received_at}
use Rattle.chain_core.proofs.Feeds.{says, says-by}
use Rattle.chain_core.proofs.Steps.{held-room}
use Rattle.chain_core.proofs.lent.LentReceiver.finish.Goals as goal

pub returns-in-None-clause-finished : goal.returns-in-None-clause-finished
returns-in-None-clause-finished c = λ message fit.
    (says-by (received_at c.args.self.now message) None true c.in-None.is c.if-self.true).here

pub returns-in-None-2-clause-answer : goal.returns-in-None-2-clause-answer
returns-in-None-2-clause-answer c = λ message held. grind (arith, common_steps)

pub returns-in-None-2-clause-finished : goal.returns-in-None-2-clause-finished
returns-in-None-2-clause-finished c = λ message fit.
    (says (received_at c.args.self.now message) _
    (returns-in-None-2-clause-answer c message (held-room c.args.self.now _ fit))).here

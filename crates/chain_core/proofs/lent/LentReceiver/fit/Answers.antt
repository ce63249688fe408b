use Rattle.std.proofs.Common.{sym, subst}
use Rattle.chain_core.specs.Lent.{IsLentReceiver}
use Rattle.chain_core.proofs.Leads.{fit-led}
use Rattle.chain_core.proofs.Reached.{led-fit}
use Rattle.chain_core.proofs.lent.LentReceiver.fit.Goals as goal

pub returns-clause-led : goal.returns-clause-led
returns-clause-led c = λ yes message long octets.
    fit-led c.args.self.now message
    (subst (IsLentReceiver c.args.self.now) (sym long) (c.are_fit.ensures.yes yes)) octets

pub returns-clause-only : goal.returns-clause-only
returns-clause-only c = λ message t long octets led.
    c.are_fit.ensures.no
    (subst (IsLentReceiver c.args.self.now) long (led-fit c.args.self.now message t octets led))

use Rattle.session_laws.proofs.Together.{always-in-order}
use Rattle.session_laws.proofs.laws.in_order.Goals as goal

pub returns : goal.returns
returns c = always-in-order c.two_ends.ensures c.in_order.ensures

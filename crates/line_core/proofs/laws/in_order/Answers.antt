use Rattle.line_core.proofs.Linked.{always-in-order}
use Rattle.line_core.proofs.laws.in_order.Goals as goal

pub returns : goal.returns
returns c = always-in-order c.in_order.ensures c.linked.ensures

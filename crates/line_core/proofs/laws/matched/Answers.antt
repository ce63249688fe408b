use Rattle.line_core.proofs.Linked.{always-matched}
use Rattle.line_core.proofs.laws.matched.Goals as goal

pub returns : goal.returns
returns c = always-matched c.matched.ensures c.linked.ensures

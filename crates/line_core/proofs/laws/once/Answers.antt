use Rattle.line_core.proofs.Once.{always-once}
use Rattle.line_core.proofs.laws.once.Goals as goal

pub returns : goal.returns
returns c = always-once c.matched.ensures

use Rattle.session_laws.proofs.Together.{always-once}
use Rattle.session_laws.proofs.laws.once.Goals as goal

pub returns : goal.returns
returns c = always-once c.two_ends.ensures c.once.ensures

use Rattle.session_laws.proofs.Together.{always-matched}
use Rattle.session_laws.proofs.laws.matched.Goals as goal

pub returns : goal.returns
returns c = always-matched c.two_ends.ensures c.matched.ensures

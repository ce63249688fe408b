use Rattle.session_laws.proofs.Together.{always-two-ends}
use Rattle.session_laws.proofs.laws.two_ends.Goals as goal

pub returns : goal.returns
returns c = always-two-ends

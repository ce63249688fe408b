use Rattle.session_laws.proofs.Together.{always-patient}
use Rattle.session_laws.proofs.laws.patient.Goals as goal

pub returns : goal.returns
returns c = always-patient c.two_ends.ensures c.patient.ensures

use Rattle.simulator.proofs.Ending.{each-session-ends}
use Rattle.simulator.proofs.laws.each_session_ends.Goals as goal

pub returns : goal.returns
returns c = each-session-ends

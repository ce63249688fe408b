use Rattle.traces.proofs.Again.{made-again}
use Rattle.traces.proofs.laws.recorded_is_made_again.Goals as goal

pub returns : goal.returns
returns c = made-again

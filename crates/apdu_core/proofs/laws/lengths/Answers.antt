use Rattle.apdu_core.proofs.Arrivals.{command-lengths, response-lengths}
use Rattle.apdu_core.proofs.laws.lengths.Goals as goal

pub returns : goal.returns
returns c = record { command = command-lengths; response = response-lengths }

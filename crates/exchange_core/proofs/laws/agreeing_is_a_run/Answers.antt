use Rattle.exchange_core.proofs.Runs.{agreeing-run}
use Rattle.exchange_core.proofs.laws.agreeing_is_a_run.Goals as goal

pub returns : goal.returns
returns c = agreeing-run

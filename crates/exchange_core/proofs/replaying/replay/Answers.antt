use Rattle.std.proofs.Common.{rules}
use Rattle.exchange_core.proofs.Runs.{agreeing-run}
use Rattle.exchange_core.proofs.replaying.replay.Goals as goal

pub returns-clause-run : goal.returns-clause-run
returns-clause-run c = search (rules, agreeing-run)

use Rattle.judge_core.proofs.Staked.{broken-at-stake}
use Rattle.judge_core.proofs.laws.broken_was_at_stake.Goals as goal

pub returns : goal.returns
returns c = broken-at-stake

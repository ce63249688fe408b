use Rattle.judge_core.proofs.Breakable.{breakable}
use Rattle.judge_core.proofs.laws.stakes_are_real.Goals as goal

pub returns : goal.returns
returns c = λ e owed last broken short sized h. breakable e last short sized owed broken h

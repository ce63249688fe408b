use Rattle.judge_core.proofs.Exact.{all_exact}
use Rattle.judge_core.proofs.laws.follows.Goals as goal

pub returns : goal.returns
returns c = all_exact

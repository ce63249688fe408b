use Rattle.judge_core.proofs.Exact.{exact, surely}
use Rattle.judge_core.proofs.laws.decides.Goals as goal

pub returns-clause-passed : goal.returns-clause-passed
returns-clause-passed c = exact

pub returns-clause-surely : goal.returns-clause-surely
returns-clause-surely c = surely

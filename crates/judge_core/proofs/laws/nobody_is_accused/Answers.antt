use Rattle.judge_core.proofs.Taps.{nobody_is_accused}
use Rattle.judge_core.proofs.laws.nobody_is_accused.Goals as goal

pub returns : goal.returns
returns c = nobody_is_accused

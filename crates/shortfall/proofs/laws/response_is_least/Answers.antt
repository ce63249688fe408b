use Rattle.shortfall.proofs.Apdus.{response_is_least}
use Rattle.shortfall.proofs.laws.response_is_least.Goals as goal

pub returns : goal.returns
returns c = response_is_least

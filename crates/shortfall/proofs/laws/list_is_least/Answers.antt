use Rattle.shortfall.proofs.Lists.{list_is_least}
use Rattle.shortfall.proofs.laws.list_is_least.Goals as goal

pub returns : goal.returns
returns c = list_is_least

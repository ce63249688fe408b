use Rattle.shortfall.proofs.AtrLaw.{atr_is_least}
use Rattle.shortfall.proofs.laws.atr_is_least.Goals as goal

pub returns : goal.returns
returns c = atr_is_least

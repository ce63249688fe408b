use Rattle.shortfall.proofs.ForestLaw.{forest_is_least}
use Rattle.shortfall.proofs.laws.forest_is_least.Goals as goal

pub returns : goal.returns
returns c = forest_is_least

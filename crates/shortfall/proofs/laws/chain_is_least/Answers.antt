use Rattle.shortfall.proofs.ChainLaw.{chain_is_least}
use Rattle.shortfall.proofs.laws.chain_is_least.Goals as goal

pub returns : goal.returns
returns c = chain_is_least

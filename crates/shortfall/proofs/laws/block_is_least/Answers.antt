use Rattle.shortfall.proofs.Blocks.{is_least}
use Rattle.shortfall.proofs.laws.block_is_least.Goals as goal

pub returns : goal.returns
returns c = is_least

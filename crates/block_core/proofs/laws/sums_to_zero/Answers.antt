use Rattle.block_core.proofs.Blocks.{spelling-xor}
use Rattle.block_core.proofs.laws.sums_to_zero.Goals as goal

pub returns : goal.returns
returns c = spelling-xor

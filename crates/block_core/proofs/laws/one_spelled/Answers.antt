use Rattle.block_core.specs.Block.{IsBlock}
use Rattle.octet_core.proofs.Begun.{spelled-apart}
use Rattle.block_core.proofs.Blocks.{one-accepted}
use Rattle.block_core.proofs.laws.one_spelled.Goals as goal

pub returns : goal.returns
returns c = λ i j. spelled-apart (IsBlock i) (IsBlock j) (one-accepted i j)

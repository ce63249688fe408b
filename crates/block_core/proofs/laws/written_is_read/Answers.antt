use Rattle.block_core.specs.Block.{IsBlock}
use Rattle.octet_core.proofs.Begun.{spelled-accepted}
use Rattle.block_core.proofs.laws.written_is_read.Goals as goal

pub returns : goal.returns
returns c = λ ifs. spelled-accepted (IsBlock ifs)

use Rattle.line_core.proofs.Harmed.{always-no-block}
use Rattle.line_core.proofs.laws.no_block.Goals as goal

pub returns : goal.returns
returns c = always-no-block

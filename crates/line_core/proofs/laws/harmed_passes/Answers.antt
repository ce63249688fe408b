use Rattle.line_core.proofs.Harmed.{always-passes}
use Rattle.line_core.proofs.laws.harmed_passes.Goals as goal

pub returns : goal.returns
returns c = always-passes c.no_block.ensures

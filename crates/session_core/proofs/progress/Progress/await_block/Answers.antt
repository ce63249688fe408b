use Rattle.session_core.specs.Wire.{awaits}
use Rattle.session_core.proofs.Parts.{is_step}
use Rattle.session_core.proofs.progress.Progress.await_block.Goals as goal

pub returns : goal.returns
unfolding awaits
returns c = is_step _ _ _ _ _ (c.wait.ensures _) c.restart.ensures

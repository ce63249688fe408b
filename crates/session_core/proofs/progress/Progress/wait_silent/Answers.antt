use Rattle.session_core.specs.Wire.{dropping}
use Rattle.session_core.proofs.progress.Progress.wait_silent.Goals as goal

pub returns : goal.returns
unfolding dropping
returns c = λ burst. rw c.silence-silence.ensures at (c.wait.ensures burst)

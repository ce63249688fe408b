use Rattle.session_core.specs.Wire.{dropped}
use Rattle.std.proofs.lemmas.Bool.{le-leb, lt-leb}
use Rattle.session_core.proofs.progress.Progress.dropped.Goals as goal

pub returns-then-self-count : goal.returns-then-self-count
unfolding dropped
returns-then-self-count c = λ burst. rw (le-leb _ _ c.if-self-count.true) (c.stop.ensures burst)

pub returns : goal.returns
unfolding dropped
returns c = λ burst. rw (lt-leb _ _ c.if-self-count.false) (c.wait_silent.ensures burst)

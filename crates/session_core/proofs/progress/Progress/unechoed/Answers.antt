use Rattle.session_core.specs.Wire.{unechoed}
use Rattle.std.proofs.lemmas.Bool.{ne_eqb, eq-eqb}
use Rattle.session_core.proofs.progress.Progress.unechoed.Goals as goal

pub returns-then-self-eq0 : goal.returns-then-self-eq0
unfolding unechoed
returns-then-self-eq0 c = λ burst. rw (eq-eqb _ _ c.if-self-eq0.true) (c.stop.ensures burst)

pub returns-else-self-eq0 : goal.returns-else-self-eq0
unfolding unechoed
returns-else-self-eq0 c = λ burst. rw (ne_eqb _ _ c.if-self-eq0.false) (c.miss.ensures burst)

use Rattle.std.proofs.Common.{◌∙◌, ap, sym}
use Rattle.session_core.specs.declared.event.Next.TheVariants.{Failed}
use Rattle.session_core.specs.Wire.{Doing, stops, failed}
use Rattle.session_core.proofs.progress.Progress.failed.Goals as goal

pub returns : goal.returns
unfolding failed
returns c = λ burst h.
    ap (λ (d : Doing). stops d burst Failed) (sym (c.leave.ensures burst h)) ∙ c.stop.ensures burst

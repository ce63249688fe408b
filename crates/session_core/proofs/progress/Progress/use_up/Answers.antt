use Rattle.std.proofs.Common.{◌∙◌, ap, sym}
use Rattle.session_core.specs.declared.event.Next.TheVariants.{UsedUp}
use Rattle.session_core.specs.Wire.{Doing, stops, used_up}
use Rattle.session_core.proofs.progress.Progress.use_up.Goals as goal

pub returns : goal.returns
unfolding used_up
returns c = λ burst h.
    ap (λ (d : Doing). stops d burst UsedUp) (sym (c.leave.ensures burst h)) ∙ c.stop.ensures burst

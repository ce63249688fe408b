use Rattle.session_core.specs.Wire.{ruled}
use Rattle.std.proofs.Common.{◌∙◌, ap, sym}
use Rattle.session_core.specs.declared.progress.Phase.TheVariants.{Late}
use Rattle.session_core.specs.Wire.{Doing, waits, begins}
use Rattle.session_core.proofs.progress.Progress.begin.Goals as goal

pub returns : goal.returns
unfolding begins
returns c = λ burst.
    ap (λ (d : Doing). waits (ruled c.args.rules.now) (record d { phase = Late }) burst 0 c.args.now)
    (sym c.start.ensures)
    ∙ c.wait.ensures burst

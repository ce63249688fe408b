use Rattle.session_core.specs.Wire.{ruled}
use Rattle.std.proofs.Common.{◌∙◌, ap, sym}
use Rattle.session_core.specs.declared.progress.Phase.TheVariants.{Clearing}
use Rattle.session_core.specs.Wire.{Doing, drops, clears}
use Rattle.session_core.proofs.progress.Progress.begin_silent.Goals as goal

pub returns : goal.returns
unfolding clears
returns c = λ burst.
    ap (λ (d : Doing). drops (ruled c.args.rules.now) d Clearing burst c.args.now) (sym c.start.ensures)
    ∙ c.drop_octets.ensures burst

use Rattle.std.proofs.Common.{◌∙◌, sym}
use Rattle.session_core.specs.declared.event.Next.TheVariants.{Quiet}
use Rattle.session_core.specs.Wire.{ruled, seen, is_set, awaits, stops, missed}
use Rattle.session_core.proofs.Parts.{is_step, no}
use Rattle.session_core.proofs.progress.Progress.missed.Goals as goal

pub returns-else-is_set : goal.returns-else-is_set
unfolding missed
returns-else-is_set c = λ burst h.
    is_step (missed (ruled c.args.rules.now) (seen c.args.self.now) burst c.args.now) (seen c.stop.new.self) burst
    c.stop.result c.args.framer.now
    (no (is_set c.args.rules.now.is_card) (awaits (ruled c.args.rules.now) (seen c.args.self.now) c.args.now)
    (stops (seen c.args.self.now) burst Quiet) (sym c.is_set.ensures ∙ c.if-is_set.false) ∙ c.stop.ensures burst) h

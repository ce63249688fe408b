use Rattle.session_core.specs.Wire.{ruled}
use Rattle.session_core.specs.Wire.{seen}
use Rattle.std.proofs.Common.{◌∙◌, ◌&&◌, sym}
use Rattle.session_core.specs.Wire.{judges, stops, hands, is_certain}
use Rattle.session_core.specs.declared.event.Next.TheVariants.{Echo}
use Rattle.session_core.proofs.Parts.{yes}
use Rattle.session_core.proofs.progress.Progress.take.Goals as goal

pub returns-then-is_known_echo : goal.returns-then-is_known_echo
unfolding judges
returns-then-is_known_echo c = λ burst.
    yes (c.args.is_echo && is_certain (seen c.args.self.now) c.args.octets.now)
    (stops (record (seen c.args.self.now) { echoes = 0 }) burst Echo)
    (hands (ruled c.args.rules.now) (seen c.args.self.now) burst c.args.octets.now c.args.is_echo)
    (sym c.is_known_echo.ensures ∙ c.if-is_known_echo.true) ∙ c.stop.ensures burst

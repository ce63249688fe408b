use Rattle.session_core.specs.Wire.{ruled}
use Rattle.session_core.specs.Wire.{seen}
use Rattle.session_core.specs.Wire.{misses}
use Rattle.session_core.proofs.Parts.{is_step, echoed-on, echoed-off}
use Rattle.session_core.proofs.progress.Progress.echoed.Goals as goal

pub returns-then-agrees : goal.returns-then-agrees
returns-then-agrees c = λ burst h.
    echoed-on (ruled c.args.rules.now) (seen c.args.self.now) _ burst c.args.octets.now c.unheard-rest.result.now
    c.args.now
    c.args.block.now c.agrees.result _ _ c.unheard-rest.ensures c.agrees.ensures c.if-agrees.true
    (c.hear_echo.ensures burst h)

pub returns-else-agrees : goal.returns-else-agrees
returns-else-agrees c = λ burst h.
    echoed-off (ruled c.args.rules.now) (seen c.args.self.now) _ burst c.args.octets.now c.unheard-rest.result.now
    c.args.now
    c.args.block.now c.agrees.result _ _ c.unheard-rest.ensures c.agrees.ensures c.if-agrees.false
    (is_step (misses (ruled c.args.rules.now) (seen c.args.self.now) burst c.args.now) (seen c.miss.new.self) burst
    c.miss.result
    c.args.framer.now (c.miss.ensures burst) h)

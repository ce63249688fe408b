use Rattle.session_core.specs.Wire.{ruled}
use Rattle.session_core.specs.Wire.{seen}
use Rattle.session_core.proofs.Parts.{judged-by}
use Rattle.session_core.proofs.progress.Progress.judge.Goals as goal

pub returns : goal.returns
returns c = λ burst h.
    judged-by (ruled c.args.rules.now) (seen c.args.self.now) burst c.args.block.now c.burst-octets.result.now
    c.is_echo-is_echo.result
    c.owed_after-owed.result (seen c.count.new.self) _ (c.burst-octets.ensures.burst burst h) c.is_echo-is_echo.ensures
    (c.owed_after-owed.ensures burst h) c.count.ensures (c.take.ensures burst)

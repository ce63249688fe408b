use Rattle.session_core.specs.Wire.{ruled}
use Rattle.session_core.specs.Wire.{seen}
use Rattle.session_core.proofs.Parts.{hands-refused, hands-taken}
use Rattle.session_core.proofs.progress.Progress.hand.Goals as goal

pub returns-then-is_refused : goal.returns-then-is_refused
returns-then-is_refused c = λ burst.
    hands-refused (ruled c.args.rules.now) (seen c.args.self.now) burst c.args.octets.now c.args.is_echo
    c.is_refused.result
    c.broken-self.result _ c.is_refused.ensures c.if-is_refused.true c.broken-self.ensures
    (c.stop.ensures burst)

pub returns : goal.returns
returns c = λ burst.
    hands-taken (ruled c.args.rules.now) (seen c.args.self.now) burst c.args.octets.now c.args.is_echo
    c.is_refused.result _
    c.is_refused.ensures c.if-is_refused.false (c.stop-2.ensures burst)

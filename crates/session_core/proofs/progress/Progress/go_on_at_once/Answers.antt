use Rattle.std.proofs.Common.{◌∙◌, sym}
use Rattle.session_core.specs.Wire.{ruled, seen, goes_on, is_over, judged, waits, wait_in}
use Rattle.session_core.proofs.Parts.{no}
use Rattle.session_core.proofs.progress.Progress.go_on_at_once.Goals as goal

pub returns-else-is_over : goal.returns-else-is_over
unfolding goes_on
returns-else-is_over c = λ burst h.
    no (is_over (ruled c.args.rules.now) (seen c.args.self.now) burst)
    (judged (ruled c.args.rules.now) (seen c.args.self.now) burst c.args.block.now)
    (waits (ruled c.args.rules.now) (seen c.args.self.now) burst
    (wait_in (ruled c.args.rules.now) (seen c.args.self.now) burst) c.args.now)
    (sym (c.is_over.ensures burst h) ∙ c.if-is_over.false) ∙ c.wait_more.ensures burst h

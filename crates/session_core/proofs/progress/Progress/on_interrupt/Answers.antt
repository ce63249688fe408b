use Rattle.std.proofs.Common.{◌∙◌, sym}
use Rattle.session_core.specs.Wire.{ruled, seen}
use Rattle.session_core.proofs.Parts.{looks-last}
use Rattle.session_core.proofs.progress.Progress.on_interrupt.Goals as goal

pub returns-then-is_last_look : goal.returns-then-is_last_look
returns-then-is_last_look c = λ burst h is_garbled.
    rw (looks-last (ruled c.args.rules.now) (seen c.args.self.now) burst is_garbled c.args.now c.args.block.now
    (sym c.is_last_look.ensures ∙ c.if-is_last_look.true)) (c.on_silent.ensures burst h)

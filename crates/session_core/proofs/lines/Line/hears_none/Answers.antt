use Rattle.std.proofs.Common.{◌∙◌, sym}
use Rattle.session_core.specs.Wire.{ruled, seen}
use Rattle.session_core.proofs.Parts.{looks-last}
use Rattle.session_core.proofs.lines.Line.hears_none.Goals as goal

pub returns-then-is_last_look-clause-step : goal.returns-then-is_last_look-clause-step
returns-then-is_last_look-clause-step c = λ burst h is_garbled.
    rw (looks-last (ruled c.args.self.now.rules) (seen c.args.self.now.progress) burst is_garbled c.args.now
    c.args.block.now (sym c.is_last_look.ensures ∙ c.if-is_last_look.true)) (c.silent.ensures.step burst h)

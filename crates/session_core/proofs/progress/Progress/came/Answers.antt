use Rattle.session_core.specs.Wire.{ruled}
use Rattle.std.proofs.Common.{◌∙◌, ap}
use Rattle.session_core.specs.Wire.{seen, spends}
use Rattle.session_core.proofs.Parts.{came-some}
use Rattle.session_core.proofs.progress.Progress.came.Goals as goal

pub returns : goal.returns
returns c = λ burst h.
    came-some (ruled c.args.rules.now) (seen c.args.self.now) (seen c.spend.new.self) burst c.args.octets.now
    c.args.is_garbled
    c.args.now c.args.block.now _ _ _ c.requires.some
    (c.spend.ensures ∙ ap (spends (seen c.args.self.now)) c.time_of-time.ensures) (c.take_in.ensures burst h)

use Rattle.session_core.specs.Wire.{ruled}
use Rattle.session_core.specs.Wire.{seen}
use Rattle.std.proofs.lemmas.Bool.{ne_eqb}
use Rattle.session_core.specs.Wire.{settles}
use Rattle.session_core.proofs.Parts.{is_step}
use Rattle.session_core.proofs.progress.Progress.settle.Goals as goal

pub returns-else-self-eq0 : goal.returns-else-self-eq0
unfolding settles
returns-else-self-eq0 c = λ burst h.
    is_step (settles (ruled c.args.rules.now) (seen c.args.self.now) burst c.args.now) (seen c.drop_octets.new.self)
    burst
    c.drop_octets.result c.args.framer.now (rw (ne_eqb _ _ c.if-self-eq0.false) (c.drop_octets.ensures burst)) h

use Rattle.session_core.specs.Wire.{ruled}
use Rattle.session_core.specs.Wire.{seen}
use Rattle.std.proofs.lemmas.Bool.{lt-ltb, le-ltb}
use Rattle.session_core.specs.Wire.{serves}
use Rattle.session_core.proofs.Parts.{is_step}
use Rattle.session_core.proofs.progress.Progress.serve.Goals as goal

pub returns-then-rules-self : goal.returns-then-rules-self
unfolding serves
returns-then-rules-self c = λ burst h.
    is_step (serves (ruled c.args.rules.now) (seen c.args.self.now) burst c.args.now) (seen c.drop_octets.new.self)
    burst
    c.drop_octets.result c.args.framer.now (rw (lt-ltb _ _ c.if-rules-self.true) (c.drop_octets.ensures burst)) h

pub returns-else-rules-self : goal.returns-else-rules-self
unfolding serves
returns-else-rules-self c = λ burst h. rw (le-ltb _ _ c.if-rules-self.false) c.await_block.ensures

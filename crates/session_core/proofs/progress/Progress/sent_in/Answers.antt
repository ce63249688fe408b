use Rattle.std.proofs.Common.{◌∙◌, sym, length}
use Rattle.session_core.specs.declared.progress.Phase.TheVariants.{Echoing, Listening}
use Rattle.session_core.specs.Wire.{ruled, seen, is_set, sent_in, goes_on, waits, echo_wait, spends, time_of}
use Rattle.session_core.proofs.Parts.{yes}
use Rattle.session_core.proofs.progress.Progress.sent_in.Goals as goal

pub returns-then-is_set : goal.returns-then-is_set
unfolding sent_in
returns-then-is_set c = λ burst h.
    yes (is_set c.args.rules.now.has_echo)
    (waits (ruled c.args.rules.now) (record (seen c.args.self.now) { phase = Echoing }) burst
    (echo_wait (ruled c.args.rules.now) c.args.block.now) c.args.now)
    (goes_on (ruled c.args.rules.now)
    (record (spends (seen c.args.self.now) (time_of (ruled c.args.rules.now) (length c.args.block.now)))
    { phase = Listening }) burst c.args.now c.args.block.now)
    (sym c.is_set.ensures ∙ c.if-is_set.true) ∙ rw c.echo_wait-wanted.ensures at (c.wait.ensures burst)

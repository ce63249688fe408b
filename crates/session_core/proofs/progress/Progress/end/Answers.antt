use Rattle.std.proofs.Common.{[]}
use Rattle.session_core.specs.Wire.{ends}
use Rattle.session_core.proofs.Parts.{none-heard}
use Rattle.session_core.proofs.progress.Progress.end.Goals as goal

pub returns-then-framer-eq0 : goal.returns-then-framer-eq0
unfolding ends
returns-then-framer-eq0 c = λ burst h.
    rw (none-heard c.args.framer.now burst h c.if-framer-eq0.true) (c.stop.ensures [])

use Rattle.session_core.specs.Wire.{ruled, seen}
use Rattle.session_core.proofs.Known.{known-whole}
use Rattle.session_core.proofs.lines.Line.happen.Goals as goal

pub returns-clause-whole : goal.returns-clause-whole
returns-clause-whole c = λ e.
    let old = c.holds_burst.ensures.burst in
    let is = c.stepped-next.ensures.step old.0 old.1 in
    let to = c.hand-next.ensures _ is.burst in
    known-whole c.args.event (ruled c.args.self.now.rules) (seen c.args.self.now.progress) old.0 c.args.octets.now
    c.args.now c.args.block.now (seen c.stepped-next.new.self.progress) (seen c.hand-next.new.self.progress)
    c.stepped-next.result c.stepped-next.new.self.framer c.hand-next.new.self.framer is to.0.progress to.0.burst_is
    c.holds_burst-2.ensures.octets (rw to.1 at e)

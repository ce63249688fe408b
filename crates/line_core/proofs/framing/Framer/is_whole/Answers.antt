use Rattle.std.proofs.Common.{arith}
use Rattle.line_core.proofs.Heard.{whole}
use Rattle.line_core.proofs.framing.Framer.is_whole.Goals as goal

pub returns-then-self-from : goal.returns-then-self-from
returns-then-self-from c = λ burst h.
    whole c.args.self.now burst c.burst.result.now c.from.result c.sum_of.result h (omega arith) c.from.ensures
    c.if-self-from.true (c.burst.ensures.burst burst h) c.sum_of.ensures

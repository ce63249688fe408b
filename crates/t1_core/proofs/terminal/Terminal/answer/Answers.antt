use Rattle.chain_core.specs.Wiped.{held_in}
use Rattle.t1_core.proofs.terminal.Terminal.answer.Goals as goal

pub returns : goal.returns
returns c = rw (← c.self.view_is, ← c.as_slice.ensures.value) (c.answer.ensures (held_in c.self.inside.command))

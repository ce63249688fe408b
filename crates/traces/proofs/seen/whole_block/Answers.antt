use Rattle.std.proofs.Common.{arith}
use Rattle.traces.proofs.Blocks.{seen-is}
use Rattle.traces.proofs.seen.whole_block.Goals as goal

pub returns : goal.returns
returns c = seen-is c.args.octets.now c.by_verdict.result (λ i. omega (arith, c.type_inv.octets i)) c.by_verdict.ensures

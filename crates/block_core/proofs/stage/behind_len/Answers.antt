use Rattle.std.proofs.Common.{arith}
use Rattle.block_core.proofs.Stages.{refused-len}
use Rattle.block_core.proofs.stage.behind_len.Goals as goal

pub returns-in-Some-clause-refused : goal.returns-in-Some-clause-refused
returns-in-Some-clause-refused c = refused-len c.args.ifs c.args.held.now c.args.pcb c.in-Some.reason c.requires.most
    (λ i. omega (arith, c.type_inv.held i)) c.requires.len c.requires.kind c.in-Some.ensures.some

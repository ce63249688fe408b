use Rattle.std.proofs.Common.{arith}
use Rattle.block_core.proofs.Stages.{refused-pcb}
use Rattle.block_core.proofs.stage.behind_pcb.Goals as goal

pub returns-in-None-clause-refused : goal.returns-in-None-clause-refused
returns-in-None-clause-refused c = refused-pcb c.args.ifs c.args.held.now (λ i. omega (arith, c.type_inv.held i))
    c.requires c.in-None.ensures.none

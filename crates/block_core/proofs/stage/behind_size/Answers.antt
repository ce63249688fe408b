use Rattle.std.proofs.Common.{arith, refl}
use Rattle.block_core.proofs.Stages.{refused-size}
use Rattle.block_core.proofs.stage.behind_size.Goals as goal

pub returns-then-refuses_first-clause-refused : goal.returns-then-refuses_first-clause-refused
returns-then-refuses_first-clause-refused c =
    let known = c.if-refuses_first.ensures.0 refl in
    refused-size c.args.ifs c.args.held.now c.args.pcb (λ i. omega (arith, c.type_inv.held i)) c.requires.len
    c.requires.headed known.0 known.1

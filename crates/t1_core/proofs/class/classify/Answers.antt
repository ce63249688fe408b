use Rattle.std.proofs.Common.{arith}
use Rattle.block_core.proofs.Blocks.{one-accepted}
use Rattle.t1_core.specs.Came.{class_of}
use Rattle.t1_core.specs.Views.{came_of}
use Rattle.t1_core.proofs.Classes.{only-one}
use Rattle.t1_core.proofs.Computed.{computed}
use Rattle.t1_core.proofs.class.classify.Goals as goal

pub returns : goal.returns
returns c = only-one one-accepted c.args.ifs c.args.octets.now (came_of c.by_verdict.result)
    (class_of c.args.ifs c.args.octets.now)
    c.by_verdict.ensures (computed c.args.ifs c.args.octets.now c.requires.most
    (λ i. omega (arith, c.type_inv.octets i)))

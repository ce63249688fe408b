use Rattle.std.proofs.Common.{arith}
use Rattle.chain_core.proofs.Steps.{receiver-fresh}
use Rattle.chain_core.proofs.receiver.Receiver.restart.Goals as goal

pub invariant_of-self : goal.invariant_of-self
invariant_of-self c =
    let i = c.self.inside in
    receiver-fresh c.begin-self-inside.result c.clear.new.self.octets _ i.state.ifs c.args.number i.state.max
    (c.begin-self-inside.ensures.fit _ (omega (arith, c.clear.ensures.room, c.self.invariant.stored.fit.reserved)))
    c.clear.ensures.none c.begin-self-inside.ensures.fresh

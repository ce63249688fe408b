use Rattle.std.proofs.Common.{arith}
use Rattle.chain_core.proofs.Steps.{receiver-fresh}
use Rattle.chain_core.proofs.receiver.Receiver.new.Goals as goal

pub invariant_of-result : goal.invariant_of-result
invariant_of-result c =
    receiver-fresh c.begin-state.result c.in_ok-message.message.octets _ c.args.ifs c.args.number c.args.max
    (c.begin-state.ensures.fit _ (omega (arith, c.in_ok-message.ensures.room))) c.in_ok-message.ensures.none
    c.begin-state.ensures.fresh

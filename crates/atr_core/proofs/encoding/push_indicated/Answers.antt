use Rattle.std.proofs.Common.{arith, lit<}
use Rattle.atr_core.proofs.Built.{td-room}
use Rattle.atr_core.proofs.encoding.push_indicated.Goals as goal

pub push-requires : goal.push-requires
push-requires c =
    let room = td-room c.loop-rest.octets.items c.args.octets.now.items c.loop-rest.rest.now c.args.indicated.now
    (omega arith) c.loop-rest.invariant.whole c.requires.room in
    (lit< tt, omega arith)

pub push_bytes-requires : goal.push_bytes-requires
push_bytes-requires c =
    let room = td-room c.loop-rest.octets.items c.args.octets.now.items c.loop-rest.rest.now c.args.indicated.now
    (omega arith) c.loop-rest.invariant.whole c.requires.room in
    omega (arith, room)

use Rattle.std.proofs.Common.{arith}
use Rattle.line_core.proofs.Carrying.{moves-on}
use Rattle.line_core.proofs.streaming.read_more.Goals as goal

pub returns-clause-moved : goal.returns-clause-moved
returns-clause-moved g c = moves-on _ _ c.args.count c.args.room.now c.read.new.room _ c.read.result
    (omega (arith, c.requires.room, c.requires.count)) c.read.ensures.bound c.read.ensures.octets

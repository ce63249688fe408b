use Rattle.std.proofs.Common.{arith, refl}
use Rattle.program.proofs.Conversing.{moved-on, moves-heard}
use Rattle.program.proofs.conversation.StreamsConversation.hear.Goals as goal

pub returns-clause-said : goal.returns-clause-said
returns-clause-said g c = λ first before held. (
  held.0,
  moved-on _ _ _ before _ held.1
      (moves-heard _ _ refl refl c.read.result c.read.new.room (omega (arith, c.requires, c.read.auto.room))
      c.read.ensures.bound c.read.ensures.octets c.read.ensures.counted),
)

use Rattle.std.proofs.Common.{refl}
use Rattle.program.proofs.Conversing.{moved-on, moves-told}
use Rattle.program.proofs.conversation.StreamsConversation.tell.Goals as goal

pub returns-clause-said : goal.returns-clause-said
returns-clause-said g c = λ first before held. (
  held.0,
  moved-on _ _ _ before _ held.1
      (moves-told _ _ refl refl c.args.text.now c.write_octets.result c.write_octets.ensures.all
      c.write_octets.ensures.none_failed c.write_octets.ensures.fewer c.write_octets.ensures.first
      c.write_octets.ensures.failed_once),
)

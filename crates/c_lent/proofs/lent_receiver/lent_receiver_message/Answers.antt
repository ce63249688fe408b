use Rattle.std.proofs.Common.{refl}
use Rattle.chain_core.specs.Lent.{received_at}
use Rattle.c_lent.proofs.lent_receiver.lent_receiver_message.Goals as goal

pub returns-in-Some-message_len-clause-none : goal.returns-in-Some-message_len-clause-none
returns-in-Some-message_len-clause-none c = λ none.
    absurd (none (received_at c.in-Some.receiver c.args.message.now) (record {
      receiver = c.in-Some.receiver;
      spelled = c.in-Some.ensures.some.0;
      fit = c.in-Some.ensures.some.1;
      held = refl;
    }))

use Rattle.std.proofs.Common.{refl, sym, subst}
use Rattle.chain_core.specs.Taking.{Taking}
use Rattle.chain_core.specs.Lent.{received_at}
use Rattle.c_lent.specs.LentReceiver.{EndsReceiver}
use Rattle.c_lent.proofs.Lending.{receiver-held-by}
use Rattle.c_lent.proofs.lent_receiver.lent_receiver_finish.Goals as goal

pub returns-in-Some : goal.returns-in-Some
returns-in-Some c =
    let p = c.in-Some.receiver in
    let message = c.args.message.now in
    record {
      none = λ none. absurd (none (received_at p message) (record {
        receiver = p;
        spelled = c.in-Some.ensures.some.0;
        fit = c.in-Some.ensures.some.1;
        held = refl;
      }));
      ended = λ r is.
          subst (λ (s : Taking). EndsReceiver s c.ended.result)
          (sym (receiver-held-by c.args.state.now message r p c.in-Some.ensures.some.0 is))
          (record {
            answer = c.finish.result;
            finished = c.finish.ensures.finished message c.in-Some.ensures.some.1;
            verdict =
                c.ended.ensures;
          });
    }

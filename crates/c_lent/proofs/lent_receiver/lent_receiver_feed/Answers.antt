use Rattle.std.proofs.Common.{refl, sym, subst}
use Rattle.chain_core.specs.Taking.{Taking}
use Rattle.chain_core.specs.Lent.{received_at}
use Rattle.c_lent.specs.LentReceiver.{FeedsReceiver}
use Rattle.c_lent.proofs.Lending.{receiver-held-by}
use Rattle.c_lent.proofs.lent_receiver.lent_receiver_feed.Goals as goal

pub returns : goal.returns
returns c =
    let p = c.in-Some.receiver in
    let old : Taking = received_at p c.args.message.now in
    let after = c.feed-answer.new.message in
    record {
      none = λ none. absurd (none old (record {
        receiver = p;
        spelled = c.in-Some.ensures.some.0;
        fit = c.in-Some.ensures.some.1;
        held = refl;
      }));
      fed = λ r is.
          subst (λ (s : Taking). FeedsReceiver s c.args.piece.now c.of.result after c.fed.result)
          (sym (receiver-held-by c.args.state.now c.args.message.now r p c.in-Some.ensures.some.0 is))
          (record {
            new = received_at c.feed-answer.new.self after;
            is = record {
              receiver = c.feed-answer.new.self;
              spelled = c.of.ensures.kept;
              fit =
                  c.feed-answer.ensures.fit;
              held = refl;
            };
            fed = record {
              answer = c.feed-answer.result;
              fed = c.feed-answer.ensures.fed;
              kept =
                  c.feed-answer.ensures.kept;
              verdict = c.fed.ensures;
            };
          });
    }

use Rattle.std.proofs.Common.{refl}
use Rattle.t1_core.specs.CardViews.{card_held}
use Rattle.c_lent.proofs.card_session.card_session_serve.Goals as goal

pub returns-in-Some : goal.returns-in-Some
returns-in-Some c = record {
  none = λ none. absurd (none (card_held c.in-Some.field-0 c.args.command.now c.args.reply.now) (record {
    end = c.in-Some.field-0;
    spelled = c.in-Some.ensures.some.0;
    fit = c.in-Some.ensures.some.1;
    held = refl;
  }));
  called = λ card is burst h. record {
    action = c.serve.result;
    line = c.serve.ensures.line burst h;
    card = refl;
    own = c.serve.ensures.own;
    granted = refl;
    takes_short = refl;
    next_is = c.acts.ensures;
  };
}

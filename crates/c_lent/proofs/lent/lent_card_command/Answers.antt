use Rattle.std.proofs.Common.{refl}
use Rattle.t1_core.specs.CardViews.{card_held}
use Rattle.c_lent.proofs.lent.lent_card_command.Goals as goal

pub returns-in-Some-clause-none : goal.returns-in-Some-clause-none
returns-in-Some-clause-none c = λ none.
    absurd (none (card_held c.in-Some.end c.args.command.now c.args.reply.now) (record {
      end = c.in-Some.end;
      spelled = c.in-Some.ensures.some.0;
      fit = c.in-Some.ensures.some.1;
      held = refl;
    }))

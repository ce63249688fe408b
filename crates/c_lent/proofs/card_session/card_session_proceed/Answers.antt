use Rattle.std.proofs.Common.{◌≡◌, ℕ, Some, refl, sym, subst}
use Rattle.t1_core.specs.Card.{CardState}
use Rattle.t1_core.specs.CardViews.{card_held, IsBlankAfter}
use Rattle.c_lent.specs.Kept.{card_of}
use Rattle.c_lent.specs.Lent.{lent}
use Rattle.c_lent.specs.Session.{CardProceeds}
use Rattle.c_lent.proofs.Lending.{card-held-by}
use Rattle.c_lent.proofs.card_session.card_session_proceed.Goals as goal

pub returns-clause-step : goal.returns-clause-step
returns-clause-step c = λ t is step rules g.
    let p = c.in-Some.end in
    let spells : card_of c.args.session.now.card ≡ Some p = sym c.in-Some.ensures.card in
    subst (λ (s : CardState). CardProceeds s step rules c.args.now
    (lent c.args.session.now c.args.command.now c.args.reply.now)
    (lent (record {
      card = c.of-session.result;
      line = c.proceed-acted.new.line;
      own = c.proceed-acted.new.own;
      granted = c.proceed-acted.new.granted;
      host_takes_short = c.args.session.now.host_takes_short;
    }) c.proceed-acted.new.command c.proceed-acted.new.reply)
    c.args.out.now c.proceed-acted.new.out c.of_card.result)
    (sym (card-held-by c.args.session.now.card c.args.command.now c.args.reply.now t p spells is))
    (record {
      c_after = card_held c.proceed-acted.new.end c.proceed-acted.new.command c.proceed-acted.new.reply;
      result = c.proceed-acted.result;
      end = record {
        end = c.proceed-acted.new.end;
        spelled = c.of-session.ensures.kept;
        fit = c.proceed-acted.ensures.fit;
        held = refl;
      };
      stepped_so = c.proceed-acted.ensures.step step rules g;
      next_is = c.of_card.ensures;
      takes_short = refl;
    })

pub returns-clause-blank : goal.returns-clause-blank
returns-clause-blank c = λ blank.
    subst (λ (n : ℕ). IsBlankAfter n c.proceed-acted.new.command) (sym c.of-session.ensures.command)
    (c.proceed-acted.ensures.blank
    (subst (λ (n : ℕ). IsBlankAfter n c.args.command.now) (sym c.in-Some.ensures.command) blank))

use Rattle.std.proofs.Common.{ℕ, ◌∙◌, Some, Ok, Err, refl, sym, ap, subst, arith}
use Rattle.t1_core.specs.Card.{CardState}
use Rattle.t1_core.specs.CardViews.{card_held, IsBlankAfter}
use Rattle.c_lent.specs.Lent.{lent}
use Rattle.c_lent.specs.Session.{CardTurns, host_input}
use Rattle.c_lent.proofs.Lending.{card-held-by}
use Rattle.c_lent.proofs.card_session.host_turn.Goals as goal

pub returns-in-Ok : goal.returns-in-Ok
returns-in-Ok c =
    let p = c.in-Some.end in
    let before : CardState = card_held p c.args.command.now c.args.reply.now in
    record {
      room = λ lt. absurd (omega (arith, lt, c.if-out-lt-LONGEST_BLOCK.false));
      none = λ le none. absurd (none before (record {
        end = p;
        spelled = c.in-Some.ensures.some.0;
        fit = c.in-Some.ensures.some.1;
        held = refl;
      }));
      called = λ le t is burst h.
          subst (λ (s : CardState). CardTurns s (host_input c.args.call) c.args.now burst
          (lent c.args.session.now c.args.command.now c.args.reply.now)
          (lent (record {
            card = c.of-session.result;
            line = c.lend.new.line;
            own = c.lend.new.own;
            granted =
                c.args.session.now.granted;
            host_takes_short = c.args.session.now.host_takes_short;
          }) c.args.command.now
          c.lend.new.reply)
          c.args.out.now c.lend.new.out c.of_card.result)
          (sym (card-held-by c.args.session.now.card c.args.command.now c.args.reply.now t p c.in-Some.ensures.some.0
          is))
          (record {
            c_after = card_held c.lend.new.end c.args.command.now c.lend.new.reply;
            result = Ok c.in-Ok.action;
            end = record {
              end = c.lend.new.end;
              spelled = c.of-session.ensures.kept;
              fit = c.in-Ok.ensures.fit;
              held = refl;
            };
            turn = c.in-Ok.ensures.turn burst h;
            next_is = c.of_card.ensures;
            granted = refl;
            takes_short = refl;
            refused = tt;
          });
      blank = λ blank.
          subst (λ (n : ℕ). IsBlankAfter n c.args.command.now) (sym c.of-session.ensures.command)
          (c.in-Ok.ensures.blank
          (subst (λ (n : ℕ). IsBlankAfter n c.args.command.now) (sym c.in-Some.ensures.command) blank));
    }

pub returns-in-Err : goal.returns-in-Err
returns-in-Err c =
    let p = c.in-Some.end in
    let same = c.in-Err.ensures.refused in
    let before : CardState = card_held p c.args.command.now c.args.reply.now in
    record {
      room = λ lt. absurd (omega (arith, lt, c.if-out-lt-LONGEST_BLOCK.false));
      none = λ le none. absurd (none before (record {
        end = p;
        spelled = c.in-Some.ensures.some.0;
        fit = c.in-Some.ensures.some.1;
        held = refl;
      }));
      called = λ le t is burst h.
          subst (λ (s : CardState). CardTurns s (host_input c.args.call) c.args.now burst
          (lent c.args.session.now c.args.command.now c.args.reply.now)
          (lent (record {
            card = c.args.session.now.card;
            line = c.lend.new.line;
            own = c.lend.new.own;
            granted =
                c.args.session.now.granted;
            host_takes_short = c.args.session.now.host_takes_short;
          }) c.args.command.now
          c.lend.new.reply)
          c.args.out.now c.lend.new.out c.of_card-in-Err.result)
          (sym (card-held-by c.args.session.now.card c.args.command.now c.args.reply.now t p c.in-Some.ensures.some.0
          is))
          (record {
            c_after = card_held c.lend.new.end c.args.command.now c.lend.new.reply;
            result = Err c.in-Err.fault;
            end = record {
              end = c.lend.new.end;
              spelled = c.in-Some.ensures.some.0 ∙ ap Some (sym same.0);
              fit = c.in-Err.ensures.fit;
              held = refl;
            };
            turn = c.in-Err.ensures.turn burst h;
            next_is = c.of_card-in-Err.ensures;
            granted = refl;
            takes_short = refl;
            refused = λ i. lent (record {
              card = c.args.session.now.card;
              line = same.2 i;
              own = same.3 i;
              granted = c.args.session.now.granted;
              host_takes_short = c.args.session.now.host_takes_short;
            }) c.args.command.now (same.1 i);
          });
      blank = λ b. b;
    }

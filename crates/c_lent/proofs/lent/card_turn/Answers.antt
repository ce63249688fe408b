use Rattle.std.proofs.Common.{◌∙◌, ℕ, Some, Ok, Err, refl, sym, ap, subst, arith}
use Rattle.t1_core.specs.Card.{CardState, card_turn, turn_of}
use Rattle.t1_core.specs.CardViews.{card_held, IsBlankAfter}
use Rattle.c_lent.specs.declared.turn.CTurn.{CTurn}
use Rattle.c_lent.specs.Calls.{card_input}
use Rattle.c_lent.specs.Lent.{lent, TurnsCard}
use Rattle.c_lent.proofs.Turns.{card_shown, card-taken, card-leaves}
use Rattle.c_lent.proofs.Lending.{card-held-by}
use Rattle.c_lent.proofs.lent.card_turn.Goals as goal

pub returns-in-Ok : goal.returns-in-Ok
returns-in-Ok c =
    let p = c.in-Some.end in
    let before : CardState = card_held p c.args.command.now c.args.reply.now in
    record {
      room = λ lt. absurd (omega (arith, lt, c.if-out-lt-LONGEST_BLOCK.false));
      none = λ le none. absurd (none before (record {
        end = p;
        spelled = c.in-Some.ensures.some.0;
        fit = c.in-Some.ensures.some.1;
        held = refl;
      }));
      called = λ le t is.
          subst (λ (s : CardState). TurnsCard s (card_input c.args.call s)
          (lent c.of-in-Ok.result c.lend.new.command c.lend.new.reply)
          c.args.out.now c.lend.new.out c.of_card.result)
          (sym (card-held-by c.args.state.now c.args.command.now c.args.reply.now t p c.in-Some.ensures.some.0 is))
          (record {
            state = record {
              end = c.lend.new.end;
              spelled = c.of-in-Ok.ensures.kept;
              fit = c.in-Ok.ensures.fit;
              held = sym c.in-Ok.ensures.wrote.state;
            };
            turn_is = card_shown (turn_of (card_turn before (card_input c.args.call before))) c.args.out.now
                c.lend.new.out
                (Ok c.in-Ok.put) c.of_card.result c.in-Ok.ensures.wrote.turn c.of_card.ensures;
          });
      refused = λ high.
          absurd (omega (arith, high, card-taken c.in-Ok.put, ap (λ (t : CTurn). t.kind) c.of_card.ensures));
      blank = λ blank.
          subst (λ (n : ℕ). IsBlankAfter n c.lend.new.command) (sym c.of-in-Ok.ensures.command)
          (c.in-Ok.ensures.blank
          (subst (λ (n : ℕ). IsBlankAfter n c.args.command.now) (sym c.in-Some.ensures.command) blank));
    }

pub returns-in-Err : goal.returns-in-Err
returns-in-Err c =
    let p = c.in-Some.end in
    let same = c.in-Err.ensures.refused in
    let before : CardState = card_held p c.args.command.now c.args.reply.now in
    let given = turn_of (card_turn before (card_input c.args.call before)) in
    record {
      room = λ lt. absurd (omega (arith, lt, c.if-out-lt-LONGEST_BLOCK.false));
      none = λ le none. absurd (none before (record {
        end = p;
        spelled = c.in-Some.ensures.some.0;
        fit = c.in-Some.ensures.some.1;
        held = refl;
      }));
      called = λ le t is.
          subst (λ (s : CardState). TurnsCard s (card_input c.args.call s)
          (lent c.args.state.now c.lend.new.command c.lend.new.reply)
          c.args.out.now c.lend.new.out c.of_card-in-Err.result)
          (sym (card-held-by c.args.state.now c.args.command.now c.args.reply.now t p c.in-Some.ensures.some.0 is))
          (record {
            state = record {
              end = c.lend.new.end;
              spelled = c.in-Some.ensures.some.0 ∙ ap Some (sym same.0);
              fit = c.in-Err.ensures.fit;
              held = sym c.in-Err.ensures.wrote.state;
            };
            turn_is = card_shown given c.args.out.now c.lend.new.out (Err c.in-Err.fault) c.of_card-in-Err.result
                c.in-Err.ensures.wrote.turn c.of_card-in-Err.ensures;
          });
      refused = λ high. (
        λ i. lent c.args.state.now (same.1 i) (same.2 i),
        card-leaves given c.args.out.now c.lend.new.out c.in-Err.fault c.in-Err.ensures.wrote.turn,
      );
      blank = subst (IsBlankAfter c.args.state.now.command_len) (sym same.1);
    }

use Rattle.std.proofs.Common.{◌∙◌, Some, Ok, Err, refl, sym, ap, subst, arith}
use Rattle.t1_core.specs.Terminal.{TerminalState}
use Rattle.t1_core.specs.Views.{terminal_held}
use Rattle.c_lent.specs.Lent.{lent}
use Rattle.c_lent.specs.Session.{Turns, input_of}
use Rattle.c_lent.proofs.Lending.{held-by}
use Rattle.c_lent.proofs.session.session_turn.Goals as goal

pub returns-in-Ok : goal.returns-in-Ok
returns-in-Ok c =
    let p = c.in-Some.end in
    let before : TerminalState = terminal_held p c.args.command.now c.args.answer.now in
    record {
      room = λ lt. absurd (omega (arith, lt, c.if-out-lt-LONGEST_BLOCK.false));
      none = λ le none. absurd (none before (record {
        end = p;
        spelled = c.in-Some.ensures.some.0;
        fit = c.in-Some.ensures.some.1;
        held = refl;
      }));
      called = λ le t is burst h.
          subst (λ (s : TerminalState). Turns s (input_of c.args.call) c.args.now burst
          (lent c.args.session.now c.args.command.now c.args.answer.now)
          (lent (record {
            terminal = c.of-session.result;
            line = c.lend.new.line;
            most_time =
                c.args.session.now.most_time;
            most_blocks = c.args.session.now.most_blocks;
            own = c.lend.new.own;
          })
          c.lend.new.command c.args.answer.now)
          c.args.out.now c.lend.new.out c.of_terminal.result)
          (sym (held-by c.args.session.now.terminal c.args.command.now c.args.answer.now t p c.in-Some.ensures.some.0
          is))
          (record {
            t_after = terminal_held c.lend.new.end c.lend.new.command c.args.answer.now;
            result = Ok c.in-Ok.action;
            end = record {
              end = c.lend.new.end;
              spelled = c.of-session.ensures.kept;
              fit = c.in-Ok.ensures.fit;
              held = refl;
            };
            turn = rw c.of-limits.ensures at (c.in-Ok.ensures.turn burst h);
            next_is = c.of_terminal.ensures;
            most_time = refl;
            most_blocks = refl;
            refused = tt;
          });
    }

pub returns-in-Err : goal.returns-in-Err
returns-in-Err c =
    let p = c.in-Some.end in
    let same = c.in-Err.ensures.refused in
    let before : TerminalState = terminal_held p c.args.command.now c.args.answer.now in
    record {
      room = λ lt. absurd (omega (arith, lt, c.if-out-lt-LONGEST_BLOCK.false));
      none = λ le none. absurd (none before (record {
        end = p;
        spelled = c.in-Some.ensures.some.0;
        fit = c.in-Some.ensures.some.1;
        held = refl;
      }));
      called = λ le t is burst h.
          subst (λ (s : TerminalState). Turns s (input_of c.args.call) c.args.now burst
          (lent c.args.session.now c.args.command.now c.args.answer.now)
          (lent (record {
            terminal = c.args.session.now.terminal;
            line = c.lend.new.line;
            most_time =
                c.args.session.now.most_time;
            most_blocks = c.args.session.now.most_blocks;
            own = c.lend.new.own;
          })
          c.lend.new.command c.args.answer.now)
          c.args.out.now c.lend.new.out c.of_terminal-in-Err.result)
          (sym (held-by c.args.session.now.terminal c.args.command.now c.args.answer.now t p c.in-Some.ensures.some.0
          is))
          (record {
            t_after = terminal_held c.lend.new.end c.lend.new.command c.args.answer.now;
            result = Err c.in-Err.fault;
            end = record {
              end = c.lend.new.end;
              spelled = c.in-Some.ensures.some.0 ∙ ap Some (sym same.0);
              fit = c.in-Err.ensures.fit;
              held = refl;
            };
            turn = rw c.of-limits.ensures at (c.in-Err.ensures.turn burst h);
            next_is = c.of_terminal-in-Err.ensures;
            most_time = refl;
            most_blocks = refl;
            refused = λ i. lent (record {
              terminal = c.args.session.now.terminal;
              line = same.2 i;
              most_time = c.args.session.now.most_time;
              most_blocks = c.args.session.now.most_blocks;
              own = same.3 i;
            }) (same.1 i) c.args.answer.now;
          });
    }

use Rattle.std.proofs.Common.{◌∙◌, Some, Ok, Err, refl, sym, ap, subst, arith}
use Rattle.t1_core.specs.Terminal.{TerminalState, terminal_turn, turn_of}
use Rattle.t1_core.specs.Views.{terminal_held}
use Rattle.c_lent.specs.declared.turn.CTurn.{CTurn}
use Rattle.c_lent.specs.Calls.{terminal_input}
use Rattle.c_lent.specs.Lent.{lent, TurnsTerminal}
use Rattle.c_lent.proofs.Turns.{terminal_shown, terminal-taken, terminal-leaves}
use Rattle.c_lent.proofs.Lending.{held-by}
use Rattle.c_lent.proofs.lent.terminal_turn.Goals as goal

pub returns-in-Ok : goal.returns-in-Ok
returns-in-Ok c =
    let p = c.in-Some.end in
    let before : TerminalState = terminal_held p c.args.command.now c.args.answer.now in
    record {
      room = λ lt. absurd (omega (arith, lt, c.if-out-lt-LONGEST_BLOCK.false));
      none = λ le none. absurd (none before (record {
        end = p;
        spelled = c.in-Some.ensures.some.0;
        fit = c.in-Some.ensures.some.1;
        held = refl;
      }));
      called = λ le t is.
          subst (λ (s : TerminalState). TurnsTerminal s (terminal_input c.args.call s)
          (lent c.of-in-Ok.result c.lend.new.command c.lend.new.answer)
          c.args.out.now c.lend.new.out c.of_terminal.result)
          (sym (held-by c.args.state.now c.args.command.now c.args.answer.now t p c.in-Some.ensures.some.0 is))
          (record {
            state = record {
              end = c.lend.new.end;
              spelled = c.of-in-Ok.ensures.kept;
              fit = c.in-Ok.ensures.fit;
              held = sym c.in-Ok.ensures.wrote.state;
            };
            turn_is = terminal_shown (turn_of (terminal_turn before (terminal_input c.args.call before))) c.args.out.now
                c.lend.new.out
                (Ok c.in-Ok.put) c.of_terminal.result c.in-Ok.ensures.wrote.turn c.of_terminal.ensures;
          });
      refused = λ high.
          absurd (omega (arith, high, terminal-taken c.in-Ok.put, ap (λ (t : CTurn). t.kind) c.of_terminal.ensures));
    }

pub returns-in-Err : goal.returns-in-Err
returns-in-Err c =
    let p = c.in-Some.end in
    let same = c.in-Err.ensures.refused in
    let before : TerminalState = terminal_held p c.args.command.now c.args.answer.now in
    let given = turn_of (terminal_turn before (terminal_input c.args.call before)) in
    record {
      room = λ lt. absurd (omega (arith, lt, c.if-out-lt-LONGEST_BLOCK.false));
      none = λ le none. absurd (none before (record {
        end = p;
        spelled = c.in-Some.ensures.some.0;
        fit = c.in-Some.ensures.some.1;
        held = refl;
      }));
      called = λ le t is.
          subst (λ (s : TerminalState). TurnsTerminal s (terminal_input c.args.call s)
          (lent c.args.state.now c.lend.new.command c.lend.new.answer)
          c.args.out.now c.lend.new.out c.of_terminal-in-Err.result)
          (sym (held-by c.args.state.now c.args.command.now c.args.answer.now t p c.in-Some.ensures.some.0 is))
          (record {
            state = record {
              end = c.lend.new.end;
              spelled = c.in-Some.ensures.some.0 ∙ ap Some (sym same.0);
              fit = c.in-Err.ensures.fit;
              held = sym c.in-Err.ensures.wrote.state;
            };
            turn_is = terminal_shown given c.args.out.now c.lend.new.out (Err c.in-Err.fault)
                c.of_terminal-in-Err.result
                c.in-Err.ensures.wrote.turn c.of_terminal-in-Err.ensures;
          });
      refused = λ high. (
        λ i. lent c.args.state.now (same.1 i) (same.2 i),
        terminal-leaves given c.args.out.now c.lend.new.out c.in-Err.fault c.in-Err.ensures.wrote.turn,
      );
    }

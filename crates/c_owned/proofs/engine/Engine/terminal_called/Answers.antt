use Rattle.std.proofs.Common.{Some, sym, ap, subst}
use Rattle.t1_core.specs.Terminal.{TerminalState, terminal_turn, turn_of}
use Rattle.c_owned.specs.declared.engine.Engine.{Engine}
use Rattle.c_owned.specs.declared.engine.Engine.TheVariants.{Terminal}
use Rattle.c_lent.specs.Calls.{terminal_input}
use Rattle.c_owned.specs.Ends.{TerminalTakes}
use Rattle.c_lent.proofs.Turns.{terminal_shown}
use Rattle.c_owned.proofs.engine.Engine.terminal_called.Goals as goal

pub returns-in-Terminal : goal.returns-in-Terminal
returns-in-Terminal c =
    let end : TerminalState = c.in-Terminal.end in
    subst (λ (e : Engine). TerminalTakes (terminal_input c.args.call) (Some e) (Some (Terminal c.call_terminal.new.end))
    c.args.out.now c.call_terminal.new.out c.of_terminal.result) (sym c.in-Terminal.is) (record {
      state = ap (λ (t : TerminalState). Some (Terminal t)) c.call_terminal.ensures.state;
      turn_is = terminal_shown (turn_of (terminal_turn end (terminal_input c.args.call end))) c.args.out.now
          c.call_terminal.new.out c.call_terminal.result c.of_terminal.result c.call_terminal.ensures.turn
          c.of_terminal.ensures;
    })

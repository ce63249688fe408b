use Rattle.std.proofs.Common.{List, ℕ, take, drop, ap, sym, arith, None, Ok}
use Rattle.std.proofs.lemmas.List.{length-drop}
use Rattle.t1_core.specs.declared.turns.TerminalTurn.TheVariants.{Send}
use Rattle.t1_core.specs.Came.{info}
use Rattle.t1_core.specs.Views.{terminal_held}
use Rattle.t1_core.proofs.Cuts.{more_follows, command-goes-on}
use Rattle.t1_core.proofs.lent.LentTerminal.sends_from.Goals as goal

pub returns-then-command-place-clause-took : goal.returns-then-command-place-clause-took
returns-then-command-place-clause-took c =
    let message : List ℕ = take c.args.self.now.command_len c.args.command_buffer.now in
    let left : List ℕ = drop c.args.place message in
    let size : ℕ = c.args.self.now.ifsc in
    record {
      turn = ap (λ more. Ok (Send (info c.args.self.now.number more (take size left))))
          (sym (more_follows size left (omega (arith, length-drop c.args.place message, c.if-command-place.true))));
      state = rw c.requires.unanswered (ap (λ waits.
          record (terminal_held c.args.self.now c.args.command_buffer.now c.args.answer_buffer.now)
          { waits = waits; answered = None })
          (command-goes-on (take size left) (drop size left)
          (omega (arith, length-drop c.args.place message, length-drop size left, c.if-command-place.true))));
    }

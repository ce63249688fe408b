use Rattle.t1_core.specs.Terminal.{takes}
use Rattle.t1_core.specs.Views.{terminal_held}
use Rattle.t1_core.specs.Came.{quiet}
use Rattle.session_core.specs.declared.lines.Start.TheVariants.{Talk}
use Rattle.session_core.specs.Wire.{seen}
use Rattle.session_core.specs.Terminals.{limits_in}
use Rattle.session_core.proofs.Ends.{turns-ok}
use Rattle.session_core.proofs.terminal.unheard.Goals as goal

pub returns-clause-turn : goal.returns-clause-turn
returns-clause-turn c = λ burst h.
    turns-ok (terminal_held c.args.end.now c.args.command.now c.args.answer.now) (takes quiet) Talk
    (limits_in c.args.line.now.rules)
    c.args.line.now.rules (seen c.args.line.now.progress) burst c.args.now
    (terminal_held c.quiet_into.new.self c.args.command.now c.args.answer.now) c.turn_apart.new.self
    c.args.own.now c.turn_apart.new.own c.args.out.now c.quiet_into.new.out c.in_ok-turn.turn c.answer_len.result
    c.turn_apart.result
    c.in_ok-turn.ensures.wrote.turn c.in_ok-turn.ensures.wrote.state
    (c.answer_len.ensures c.args.command.now) (rw c.limits-limits.ensures at (c.turn_apart.ensures burst h))

use Rattle.t1_core.specs.Terminal.{transmit}
use Rattle.t1_core.specs.Views.{terminal_held}
use Rattle.session_core.specs.declared.lines.Start.TheVariants.{Exchange}
use Rattle.session_core.specs.Wire.{seen}
use Rattle.session_core.proofs.Ends.{turns-ok}
use Rattle.session_core.proofs.terminal.exchange.Goals as goal

pub returns-clause-turn : goal.returns-clause-turn
returns-clause-turn c = λ burst h.
    turns-ok (terminal_held c.args.end.now c.args.command.now c.args.answer.now) (transmit c.args.octets.now) Exchange
    c.args.limits
    c.args.line.now.rules (seen c.args.line.now.progress) burst c.args.now
    (terminal_held c.transmit_into.new.self c.transmit_into.new.command_buffer c.args.answer.now) c.turn_apart.new.self
    c.args.own.now c.turn_apart.new.own c.args.out.now c.transmit_into.new.out c.in_ok-turn.turn c.answer_len.result
    c.turn_apart.result
    c.in_ok-turn.ensures.wrote.turn c.in_ok-turn.ensures.wrote.state
    (c.answer_len.ensures c.transmit_into.new.command_buffer) (c.turn_apart.ensures burst h)

use Rattle.t1_core.specs.Terminal.{takes}
use Rattle.t1_core.specs.Views.{terminal_held}
use Rattle.std.proofs.Common.{take}
use Rattle.line_core.specs.Bursts.{handed}
use Rattle.t1_core.specs.Came.{class_of}
use Rattle.session_core.specs.declared.lines.Start.TheVariants.{Talk}
use Rattle.session_core.specs.Wire.{seen}
use Rattle.session_core.specs.Terminals.{limits_in}
use Rattle.session_core.proofs.Ends.{turns-ok}
use Rattle.session_core.proofs.terminal.heard.Goals as goal

pub returns-clause-turn : goal.returns-clause-turn
returns-clause-turn c = λ burst h.
    turns-ok (terminal_held c.args.end.now c.args.command.now c.args.answer.now)
    (takes (class_of c.args.end.now.ifsd (take handed burst))) Talk (limits_in c.args.line.now.rules)
    c.args.line.now.rules (seen c.args.line.now.progress) burst c.args.now
    (terminal_held c.received_burst_into.new.self c.args.command.now c.received_burst_into.new.answer_buffer)
    c.turn.new.self
    c.args.own.now c.turn.new.own c.args.out.now c.received_burst_into.new.out c.in_ok-turn.turn c.answer_len.result
    c.turn.result
    (rw (c.burst.ensures.burst burst h) at c.in_ok-turn.ensures.wrote.turn)
    (rw (c.burst.ensures.burst burst h) at c.in_ok-turn.ensures.wrote.state)
    (c.answer_len.ensures c.args.command.now) (rw c.limits-limits.ensures at (c.turn.ensures burst h))

use Rattle.std.proofs.Common.{Ok}
use Rattle.line_core.proofs.Ready.{ready}
use Rattle.line_core.proofs.Answered.{answered}
use Rattle.line_core.proofs.exchanging.send_command.Goals as goal

pub returns : goal.returns
returns g c =
    let run = rw c.transmit_into.ensures.wrote.state at
    (c.run.ensures _ (ready _ _ _ (Ok c.in_ok-first.first) c.in_ok-first.ensures.wrote.turn)) in
    record {
      run = run;
      answered = answered (g.L.TerminalLine.said c.args.line.now) (g.L.TerminalLine.said c.run.new.line)
          c.args.most_blocks c.args.terminal.now c.run.new.terminal c.args.command.now c.run.result run;
    }

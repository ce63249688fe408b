use Rattle.command_line.specs.Form.{texts}
use Rattle.program.specs.Hosts.{faults, runs}
use Rattle.program.proofs.host.done.Goals as goal

pub returns-in-Ok : goal.returns-in-Ok
returns-in-Ok g c =
    runs (texts c.in-Ok.words.items) (record { written = c.run.ensures.written; lines = c.run.ensures.lines })

pub returns-in-Err : goal.returns-in-Err
returns-in-Err g c = faults c.in-Err.fault c.in-Err.ensures c.report.ensures

use Rattle.program_octets.specs.Verdicts.{unknown}
use Rattle.program_octets.proofs.list.fill_by.Goals as goal

pub returns-in-Err : goal.returns-in-Err
returns-in-Err c = unknown c.in-Err.fault c.in-Err.is c.faulted.ensures.said c.faulted.ensures.status

use Rattle.program_octets.proofs.Faults.{fault-line}
use Rattle.program_octets.proofs.laws.fault_lines.Goals as goal

pub returns : goal.returns
returns c = fault-line

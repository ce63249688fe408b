use Rattle.program_octets.proofs.NoSign.{value-cut}
use Rattle.program_octets.proofs.laws.notes_apart.Goals as goal

pub returns : goal.returns
returns c = value-cut

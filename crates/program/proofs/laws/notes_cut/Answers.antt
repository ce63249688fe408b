use Rattle.program.proofs.OneAnswer.{notes-cut}
use Rattle.program.proofs.laws.notes_cut.Goals as goal

pub returns : goal.returns
returns c = notes-cut

use Rattle.notes.proofs.Cutting.{cut-noted}
use Rattle.notes.proofs.laws.cut_again.Goals as goal

pub returns : goal.returns
returns c = cut-noted

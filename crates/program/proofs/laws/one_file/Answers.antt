use Rattle.program.proofs.OneText.{one-file, one-trace}
use Rattle.program.proofs.laws.one_file.Goals as goal

pub returns : goal.returns
returns c = record { file = one-file; trace = one-trace }

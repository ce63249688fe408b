use Rattle.block_core.proofs.Readings.{fresh-taken, one-taken}
use Rattle.block_core.proofs.laws.taken.Goals as goal

pub returns : goal.returns
returns c = record { new = fresh-taken; only = one-taken }

use Rattle.traces.proofs.Noted.{noted-arrive}
use Rattle.traces.proofs.laws.seen_blocks_arrive.Goals as goal

pub returns : goal.returns
returns c = noted-arrive

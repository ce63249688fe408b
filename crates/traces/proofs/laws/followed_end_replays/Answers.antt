use Rattle.traces.proofs.Noted.{noted-replays}
use Rattle.traces.proofs.laws.followed_end_replays.Goals as goal

pub returns : goal.returns
returns c = noted-replays

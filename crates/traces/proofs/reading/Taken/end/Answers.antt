use Rattle.traces.proofs.Moments.{all-rise}
use Rattle.traces.proofs.reading.Taken.end.Goals as goal

pub rising-requires : goal.rising-requires
rising-requires c = all-rise c.self.inside.items.items c.self.inside.least c.self.invariant

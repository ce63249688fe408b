use Rattle.std.proofs.Common.{rules}
use Rattle.judge_core.proofs.Places.{state-below}
use Rattle.judge_core.proofs.state.State.place.Goals as goal

pub returns-clause-place : goal.returns-clause-place
returns-clause-place c = search rules

pub returns-clause-below : goal.returns-clause-below
returns-clause-below c = rw (returns-clause-place c) (state-below c.args.self)

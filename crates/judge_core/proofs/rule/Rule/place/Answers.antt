use Rattle.std.proofs.Common.{rules}
use Rattle.judge_core.proofs.Places.{rule-below}
use Rattle.judge_core.proofs.rule.Rule.place.Goals as goal

pub returns-clause-place : goal.returns-clause-place
returns-clause-place c = search rules

pub returns-clause-below : goal.returns-clause-below
returns-clause-below c = rw (returns-clause-place c) (rule-below c.args.self)

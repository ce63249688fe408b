use Rattle.judge_core.proofs.Links.{ends_are_permitted}
use Rattle.judge_core.proofs.laws.ends_are_permitted.Goals as goal

pub returns : goal.returns
returns c = ends_are_permitted

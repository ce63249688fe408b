use Rattle.tlv_core.specs.Progress.{kept_of}
use Rattle.tlv_core.proofs.Walked.{given_none}
use Rattle.tlv_core.proofs.part_walk.PartWalk.new.Goals as goal

pub returns-clause-nothing : goal.returns-clause-nothing
returns-clause-nothing c b = given_none c.args.max (kept_of c.new.result) b c.new.ensures

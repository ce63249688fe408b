use Rattle.line_core.proofs.Linked.{always-linked}
use Rattle.line_core.proofs.laws.linked.Goals as goal

pub returns : goal.returns
returns c = always-linked c.taken.ensures c.class_is_computed.ensures c.patient.ensures.where_alike

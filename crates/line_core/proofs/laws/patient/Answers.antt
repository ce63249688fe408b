use Rattle.line_core.proofs.Linked.{always-patient}
use Rattle.line_core.proofs.laws.patient.Goals as goal

pub returns : goal.returns
returns c = always-patient c.taken.ensures c.class_is_computed.ensures c.patient.ensures.where_alike

use Rattle.std.proofs.Common.{rules}
use Rattle.atr_core.proofs.Equal.{tds_decide, octets_decide}
use Rattle.atr_core.proofs.laws.are_equal.Goals as goal

pub returns : goal.returns
returns c = search (rules, tds_decide, octets_decide)

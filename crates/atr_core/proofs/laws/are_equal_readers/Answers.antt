use Rattle.std.proofs.Common.{rules}
use Rattle.atr_core.proofs.Alike.{taking_decides}
use Rattle.atr_core.proofs.laws.are_equal_readers.Goals as goal

pub returns : goal.returns
returns c = search (rules, taking_decides)

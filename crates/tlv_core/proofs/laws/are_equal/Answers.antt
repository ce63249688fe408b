use Rattle.std.proofs.Common.{rules}
use Rattle.tlv_core.proofs.Alike.{tree_decides}
use Rattle.tlv_core.proofs.laws.are_equal.Goals as goal

pub returns : goal.returns
returns c = search (rules, tree_decides)

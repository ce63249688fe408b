use Rattle.std.specs.Bool.{one_answer}
use Rattle.tlv_core.specs.Same.{same_tree}
use Rattle.tlv_core.proofs.Alike.{tree_decides}
use Rattle.tlv_core.proofs.node.NodesPartialEq.eq.Goals as goal

pub returns : goal.returns
returns c = one_answer c.are_same.result (same_tree c.args.self.now c.args.other.now) c.are_same.ensures
    (tree_decides c.args.self.now c.args.other.now)

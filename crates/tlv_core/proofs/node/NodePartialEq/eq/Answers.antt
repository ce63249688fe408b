use Rattle.std.specs.Bool.{one_answer}
use Rattle.tlv_core.specs.Same.{same_node}
use Rattle.tlv_core.proofs.Alike.{node_decides}
use Rattle.tlv_core.proofs.node.NodePartialEq.eq.Goals as goal

pub returns : goal.returns
returns c = one_answer c.is_same.result (same_node c.args.self.now c.args.other.now) c.is_same.ensures
    (node_decides c.args.self.now c.args.other.now)

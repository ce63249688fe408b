use Rattle.std.proofs.Common.{◌≡◌, ◌++◌, take}
use Rattle.tlv_core.specs.Forest.{spelling}
use Rattle.tlv_core.specs.Tree.{tree_size}
use Rattle.tlv_core.specs.Nodes.{tree_of}
use Rattle.tlv_core.proofs.spelling.+append_nodes.Given as goal

abbrev pub decreases-append_nodes : goal.decreases-append_nodes
decreases-append_nodes l = tree_size l.nodes.now

abbrev pub invariant-loop-node : goal.invariant-loop-node
invariant-loop-node l = l.out.items ≡ l.fn.out.items ++ spelling (tree_of (take l.node-index l.node-items))

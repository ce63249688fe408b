use Rattle.std.proofs.Common.{◌≡◌, take}
use Rattle.tlv_core.specs.Tree.{tree_size}
use Rattle.tlv_core.specs.Tidy.{tidy}
use Rattle.tlv_core.specs.Nodes.{tree_of}
use Rattle.tlv_core.proofs.tidying.+tidy_nodes.Given as goal

abbrev pub decreases-tidy_nodes : goal.decreases-tidy_nodes
decreases-tidy_nodes l = tree_size l.nodes.now

abbrev pub invariant-loop-node : goal.invariant-loop-node
invariant-loop-node l = tree_of l.list.items ≡ tidy (tree_of (take l.node-index l.node-items))

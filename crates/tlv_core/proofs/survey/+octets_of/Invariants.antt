use Rattle.std.proofs.Common.{◌≡◌, ◌-◌, ◌^◌, length, min, take}
use Rattle.tlv_core.specs.Forest.{spelling}
use Rattle.tlv_core.specs.Tree.{tree_size}
use Rattle.tlv_core.specs.Nodes.{tree_of}
use Rattle.tlv_core.specs.Improper.{AreObjects}
use Rattle.tlv_core.proofs.survey.+octets_of.Given as goal

abbrev pub decreases-octets_of : goal.decreases-octets_of
decreases-octets_of l = tree_size l.nodes.now

abbrev pub invariant-loop-node : goal.invariant-loop-node
invariant-loop-node l = (l.total ≡ min (length (spelling (tree_of (take l.node-index l.node-items)))) (2 ^ 64 - 1))
    × AreObjects (tree_of (take l.node-index l.node-items))

use Rattle.std.proofs.Common.{◌≡◌, drop, length}
use Rattle.tlv_core.specs.Parts.{first_on}
use Rattle.tlv_core.specs.Nodes.{tree_of}
use Rattle.tlv_core.proofs.path.+first_in.Given as goal

abbrev pub decreases-first_in : goal.decreases-first_in
decreases-first_in l = length l.path.now

abbrev pub invariant-loop-node : goal.invariant-loop-node
invariant-loop-node l = first_on l.path (tree_of (drop l.node-index l.node-items)) ≡ first_on l.path
    (tree_of l.node-items)

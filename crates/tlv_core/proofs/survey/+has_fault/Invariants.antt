use Rattle.std.proofs.Common.{take}
use Rattle.tlv_core.specs.Tree.{tree_size}
use Rattle.tlv_core.specs.Nodes.{tree_of}
use Rattle.tlv_core.specs.Improper.{SomeObject, HasFault}
use Rattle.tlv_core.proofs.survey.+has_fault.Given as goal

abbrev pub decreases-has_fault : goal.decreases-has_fault
decreases-has_fault l = tree_size l.nodes.now

abbrev pub invariant-loop-node : goal.invariant-loop-node
invariant-loop-node l = SomeObject (HasFault l.fault) l.depth (tree_of (take l.node-index l.node-items)) → ⊥

use Rattle.std.proofs.Common.{◌≡◌, ◌∷◌, [], drop}
use Rattle.tlv_core.specs.Parts.{first_on}
use Rattle.tlv_core.specs.Nodes.{tree_of}
use Rattle.tlv_core.proofs.path.with_tag.Given as goal

abbrev pub invariant-loop-node : goal.invariant-loop-node
invariant-loop-node l = first_on (l.tag ∷ []) (tree_of (drop l.node-index l.node-items)) ≡ first_on (l.tag ∷ [])
    (tree_of l.node-items)

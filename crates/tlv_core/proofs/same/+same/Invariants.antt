use Rattle.std.proofs.Common.{◌+◌, ◌≡◌, ◌*◌, take, [], ◌∷◌}
use Rattle.tlv_core.specs.Tree.{tree_size}
use Rattle.tlv_core.specs.Nodes.{tree_of}
use Rattle.tlv_core.proofs.same.+same.Given as goal

abbrev pub decreases-are_same : goal.decreases-are_same
decreases-are_same l = 2 * tree_size l.one.now + 1

abbrev pub decreases-is_same : goal.decreases-is_same
decreases-is_same l = 2 * tree_size (tree_of (l.one.now ∷ []))

abbrev pub invariant-are_same-loop-place : goal.invariant-are_same-loop-place
invariant-are_same-loop-place l = take l.place l.nodes ≡ take l.place l.others

use Rattle.std.proofs.Common.{◌≡◌, ℕ, List, [], ◌∷◌, ◌++◌, length, None}
use Rattle.std.specs.Prelude.{map}
use Rattle.tlv_core.specs.Nodes.{tree_of}
use Rattle.tlv_core.specs.Grown.{Closing}
use Rattle.tlv_core.specs.Read.{opened_of}
use Rattle.tlv_core.proofs.Closes.{ClosesOn}
use Rattle.tlv_core.proofs.partial.Partial.add.Given as goal

abbrev pub invariant-loop-self : goal.invariant-loop-self
invariant-loop-self l =
    (l.self.value ≡ None)
    × ((b rooms : List ℕ) (closed : ℕ) → length rooms ≡ l.level
    → Closing b rooms closed (map opened_of l.fn.self.opened.items)
    (tree_of (l.fn.self.list.items ++ l.fn.node ∷ [])) → ClosesOn b rooms l.self.opened.items l.self.list.items)

abbrev pub decreases-loop-self : goal.decreases-loop-self
decreases-loop-self l = length l.self.opened.items

use Rattle.std.proofs.Common.{ℕ, List, length}
use Rattle.tlv_core.specs.TidyForm.{Growing, IsKeptOf}
use Rattle.tlv_core.proofs.TidyKept.{Closes}
use Rattle.tlv_core.proofs.tidy_form.TidyForm.close_to.Given as goal

-- what is kept is that of a tidy form in which the same is left to be closed
abbrev pub invariant-loop-self : goal.invariant-loop-self
invariant-loop-self l = (old : List ℕ) (g : Growing) → IsKeptOf old l.fn.out l.fn.self g
    → Closes l.depth old l.out l.self g

abbrev pub decreases-loop-self : goal.decreases-loop-self
decreases-loop-self l = length l.self.starts.items

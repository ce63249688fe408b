use Rattle.std.proofs.Common.{◌≡◌, ◌≤◌, ◌-◌, List, ℕ, length, map}
use Rattle.tlv_core.specs.Dol.{HasListed}
use Rattle.c_lent.specs.Dol.{entry_shown}
use Rattle.c_lent.specs.Verdict.{filled}
use Rattle.c_lent.proofs.dol.put_entries.Given as goal

-- the entries that the walk has given were put into the array
abbrev pub invariant-loop-entry : goal.invariant-loop-entry
invariant-loop-entry l =
    (given : List (List ℕ × ℕ)) × HasListed l.octets l.walk given × (l.count ≡ length (map entry_shown given))
    × (l.count ≤ l.walk) × (l.out ≡ filled (map entry_shown given) l.fn.out)

abbrev pub decreases-loop-entry : goal.decreases-loop-entry
decreases-loop-entry l = length l.octets - l.walk

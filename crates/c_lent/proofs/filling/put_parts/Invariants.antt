use Rattle.std.proofs.Common.{◌≡◌, ◌≤◌, ◌-◌, ◌*◌, ◌++◌, List, ℕ, length, map, drop}
use Rattle.tlv_core.specs.Dol.{HasListed}
use Rattle.tlv_core.specs.Fill.{filled}
use Rattle.c_lent.specs.Fill.{known_seen}
use Rattle.c_lent.proofs.filling.put_parts.Given as goal

-- the parts of the entries that the walk has given were put where there is room for all of them
abbrev pub invariant-loop-entry : goal.invariant-loop-entry
invariant-loop-entry l =
    (given : List (List ℕ × ℕ)) × HasListed l.list l.walk given
    × (l.count ≡ length (filled (map known_seen l.known) given)) × (l.count ≤ 255 * l.walk)
    × (length l.out ≡ length l.fn.out)
    × (l.count ≤ length l.fn.out → l.out ≡ filled (map known_seen l.known) given ++ drop l.count l.fn.out)

abbrev pub decreases-loop-entry : goal.decreases-loop-entry
decreases-loop-entry l = length l.list - l.walk

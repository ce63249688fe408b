use Rattle.std.proofs.Common.{◌≡◌, ◌-◌, List, length, map}
use Rattle.tlv_core.specs.Parts.{Placed}
use Rattle.tlv_core.specs.Flat.{HasGiven}
use Rattle.tlv_core.proofs.walk.walk.Given as goal

abbrev pub invariant-loop-parts : goal.invariant-loop-parts
invariant-loop-parts g l =
    (l.walk.max ≡ l.max) × (given : List Placed) × HasGiven l.octets l.walk given
    × (map g.K.Keep.seen l.parts.items ≡ map (g.K.Keep.seen_in l.octets) given)

abbrev pub decreases-loop-parts : goal.decreases-loop-parts
decreases-loop-parts g l = length l.octets - l.walk.count

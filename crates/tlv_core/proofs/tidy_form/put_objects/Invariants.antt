use Rattle.std.proofs.Common.{◌≡◌, ◌-◌, List, length, map}
use Rattle.tlv_core.specs.Parts.{Placed}
use Rattle.tlv_core.specs.Flat.{HasGiven, part_in}
use Rattle.tlv_core.specs.TidyForm.{IsKeptOf, grown_by, nothing_yet}
use Rattle.tlv_core.proofs.tidy_form.put_objects.Given as goal

-- what is kept is that of the tidy form after the objects that the walk has given
abbrev pub invariant-loop-part : goal.invariant-loop-part
invariant-loop-part l =
    (l.walk.max ≡ l.max) × (given : List Placed) × HasGiven l.octets l.walk given
    × IsKeptOf l.fn.out l.out l.form (grown_by (map (part_in l.octets) given) nothing_yet)

abbrev pub decreases-loop-part : goal.decreases-loop-part
decreases-loop-part l = length l.octets - l.walk.count

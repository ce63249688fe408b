use Rattle.std.proofs.Common.{◌≤◌, ◌-◌, length}
use Rattle.c_lent.specs.Parts.{ArePutSoFar}
use Rattle.c_lent.proofs.parts.put_parts.Given as goal

-- the parts that the walk has given were put into the array
abbrev pub invariant-loop-part : goal.invariant-loop-part
invariant-loop-part l = ArePutSoFar l.max l.octets l.fn.out l.walk l.out l.count

-- those with short headers too, and the walk went on
abbrev pub invariant-loop-part-2 : goal.invariant-loop-part-2
invariant-loop-part-2 l =
    (l.initial.walk.count ≤ l.walk.count) × ArePutSoFar l.max l.octets l.fn.out l.walk l.out l.count

abbrev pub decreases-loop-part : goal.decreases-loop-part
decreases-loop-part l = length l.octets - l.walk.count

abbrev pub decreases-loop-part-2 : goal.decreases-loop-part-2
decreases-loop-part-2 l = length l.octets - l.walk.count

use Rattle.std.proofs.Common.{◌≡◌, ◌≤◌, ◌-◌, List, length}
use Rattle.tlv_core.specs.Parts.{Placed}
use Rattle.tlv_core.specs.Progress.{kept_of}
use Rattle.tlv_core.specs.Flat.{HasGiven}
use Rattle.tlv_core.proofs.part_walk.next_part.Given as goal

abbrev pub invariant-loop-progress : goal.invariant-loop-progress
invariant-loop-progress l = record {
  max : l.progress.ends.max ≡ l.fn.progress.ends.max;
  more : l.fn.progress.ends.count ≤ l.progress.ends.count;
  given : (parts : List Placed) → HasGiven l.octets (kept_of l.fn.progress) parts
      → HasGiven l.octets (kept_of l.progress) parts;
}

abbrev pub decreases-loop-progress : goal.decreases-loop-progress
decreases-loop-progress l = length l.octets - l.progress.ends.count

use Rattle.std.proofs.Common.{◌≡◌, ◌≤◌, ◌++◌, ◌-◌, ℕ, List, length, take}
use Rattle.tlv_core.specs.Reasons.{HasTaken}
use Rattle.tlv_core.specs.OpenEnds.{kept_idle}
use Rattle.tlv_core.specs.Progress.{kept_of}
use Rattle.tlv_core.proofs.progress.Progress.take_shorts.Given as goal

abbrev pub invariant-loop-object : goal.invariant-loop-object
invariant-loop-object l = record {
  max : l.ends.max ≡ l.fn.self.ends.max;
  within : l.taken ≤ length l.octets;
  taken : (b : List ℕ) → HasTaken b (kept_of l.fn.self) → HasTaken (b ++ take l.taken l.octets) (kept_idle l.ends);
}

abbrev pub decreases-loop-object : goal.decreases-loop-object
decreases-loop-object l = length l.octets - l.taken

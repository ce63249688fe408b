use Rattle.std.proofs.Common.{◌≡◌, ◌-◌, length}
use Rattle.std.specs.Prelude.{None}
use Rattle.tlv_core.specs.Progress.{kept_of}
use Rattle.tlv_core.proofs.Fed.{Fed}
use Rattle.tlv_core.proofs.checking.Checking.feed.Given as goal

abbrev pub invariant-loop-taken : goal.invariant-loop-taken
invariant-loop-taken l = Fed (kept_of l.fn.self.progress) (kept_of l.self.progress) l.piece l.taken
    × (l.self.refused ≡ None)

abbrev pub decreases-loop-taken : goal.decreases-loop-taken
decreases-loop-taken l = length l.piece - l.taken

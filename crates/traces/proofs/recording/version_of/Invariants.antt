use Rattle.std.proofs.Common.{◌≡◌, length}
use Rattle.traces.specs.Recorded.{version_of}
use Rattle.traces.proofs.recording.version_of.Given as goal

abbrev pub invariant-loop-rest : goal.invariant-loop-rest
invariant-loop-rest l = version_of l.rest ≡ version_of l.items

abbrev pub decreases-loop-rest : goal.decreases-loop-rest
decreases-loop-rest l = length l.rest

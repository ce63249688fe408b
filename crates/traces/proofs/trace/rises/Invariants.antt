use Rattle.std.proofs.Common.{◌≡◌, length}
use Rattle.traces.specs.Rising.{rises}
use Rattle.traces.proofs.trace.rises.Given as goal

abbrev pub invariant-loop-rest : goal.invariant-loop-rest
invariant-loop-rest l = rises l.least l.rest ≡ rises 0 l.items

abbrev pub decreases-loop-rest : goal.decreases-loop-rest
decreases-loop-rest l = length l.rest

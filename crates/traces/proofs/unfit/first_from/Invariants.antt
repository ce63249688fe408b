use Rattle.std.proofs.Common.{◌≡◌, ◌+◌, length}
use Rattle.traces.specs.Unfit.{first_from}
use Rattle.traces.proofs.unfit.first_from.Given as goal

abbrev pub invariant-loop-rest : goal.invariant-loop-rest
invariant-loop-rest l =
    (first_from l.side l.place l.rest ≡ first_from l.side 0 l.items) × (l.place + length l.rest ≡ length l.items)

abbrev pub decreases-loop-rest : goal.decreases-loop-rest
decreases-loop-rest l = length l.rest

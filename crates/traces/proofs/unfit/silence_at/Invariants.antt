use Rattle.std.proofs.Common.{◌≡◌, ◌+◌, false, length}
use Rattle.traces.specs.Unfit.{silence_at}
use Rattle.traces.proofs.unfit.silence_at.Given as goal

abbrev pub invariant-loop-rest : goal.invariant-loop-rest
invariant-loop-rest l =
    (silence_at l.place l.awaits l.rest ≡ silence_at 0 false l.items) × (l.place + length l.rest ≡ length l.items)

abbrev pub decreases-loop-rest : goal.decreases-loop-rest
decreases-loop-rest l = length l.rest

use Rattle.std.proofs.Common.{◌≡◌, length}
use Rattle.traces.specs.Said.{cut_from, said_from}
use Rattle.traces.proofs.said.message.Given as goal

abbrev pub invariant-loop-rest : goal.invariant-loop-rest
invariant-loop-rest l =
    (said_from l.rest l.said ≡ said_from l.items l.initial.said)
    × (cut_from l.rest l.said ≡ cut_from l.items l.initial.said)

abbrev pub decreases-loop-rest : goal.decreases-loop-rest
decreases-loop-rest l = length l.rest

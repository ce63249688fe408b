use Rattle.std.proofs.Common.{◌≡◌, ◌<◌, ◌≤◌, ◌+◌, ◌/◌, ◌%◌, length}
use Rattle.notes.specs.Missing.{next_after}
use Rattle.notes.proofs.atr_refusal.next_after.Given as goal

abbrev pub invariant-loop-bits : goal.invariant-loop-bits
invariant-loop-bits l =
    (next_after l.bits l.number (l.t0 % 16) l.rest ≡ next_after (l.t0 / 16) 1 (l.t0 % 16) l.octets)
    × (l.bits < 16) × (l.number + length l.rest ≤ 1 + length l.octets)

abbrev pub decreases-loop-bits : goal.decreases-loop-bits
decreases-loop-bits l = length l.rest

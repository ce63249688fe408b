use Rattle.std.proofs.Common.{◌+◌, ◌-◌, ◌≤◌, length}
use Rattle.atr_core.specs.Whole.{HasHeadBefore}
use Rattle.atr_core.proofs.length.skip_head.Given as goal

-- the bytes and TDs up to the place were skipped, where the octets go on to it
abbrev pub invariant-loop-td : goal.invariant-loop-td
invariant-loop-td l = HasHeadBefore l.fn.t0 l.fn.from l.needed l.td l.place × (l.place ≤ length l.fn.from + 4)

abbrev pub decreases-loop-td : goal.decreases-loop-td
decreases-loop-td l = length l.fn.from + 4 - l.place

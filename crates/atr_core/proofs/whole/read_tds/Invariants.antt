use Rattle.std.proofs.Common.{length}
use Rattle.atr_core.specs.Whole.{AreTdsSoFar}
use Rattle.atr_core.proofs.whole.read_tds.Given as goal

-- those that were read, and whatever TDs the rest begins with, are those of the octets
abbrev pub invariant-loop-td : goal.invariant-loop-td
invariant-loop-td l = AreTdsSoFar l.fn.td l.fn.octets l.indicated.items l.td l.rest

abbrev pub decreases-loop-td : goal.decreases-loop-td
decreases-loop-td l = length l.rest
